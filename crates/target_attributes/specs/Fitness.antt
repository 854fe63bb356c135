-- Which attributes of the target vertices have fit results, and the first that has none.
-- Assumes nothing.
use Rattle.std.specs.Prelude.{◌≡◌, Bool, true, false, cond, not, List, [], ℕ, ltb, ℤ, length, get_or}
use Rattle.std.proofs.Math.Option.{Option}
use Rattle.definitions.specs.Lists.{lowest}
use Rattle.definitions.specs.Rule.{anything, Origin, Pattern, Rule, target_of}
use Rattle.definitions.specs.Attributes.{result_of}
use Rattle.definitions.specs.Rewriting.{vertex_results}
use Rattle.new_words.specs.Words.{index_like}
use Rattle.std.specs.declared.result.Result.{Result}
use Rattle.std.specs.declared.result.Result.TheVariants.{Ok, Err}
use Rattle.target_attributes.specs.declared.Lack.{Lack}
use Rattle.target_attributes.specs.Words.{is_given, Given}

-- attribute i of a target vertex has a fit result
abbrev pub fit_at : (ℕ → ℕ → Option ℤ) → Pattern Origin → ℕ → Bool
fit_at read p i = index_like p.kind (result_of read (get_or p.attributes i anything))

-- all attributes of target vertex t have fit results
abbrev pub vertex_given : (ℕ → ℕ → Option ℤ) → Rule → ℕ → Bool
vertex_given read r t = is_given (vertex_results read (target_of r t))

-- the answer where all are fit, or the first that is not
abbrev pub Fitness : Type 0
Fitness = Result (Unit {0}) Lack

-- whether an answer says that all are fit
unfoldable pub is_fit : {A : Type 0} → Result A Lack → Bool
is_fit (Ok x) = true
is_fit (Err lack) = false

-- that all below n are fit, or the first that is not
unfoldable pub first_unfit : (ℕ → Bool) → ℕ → Fitness
first_unfit fit n = let k = lowest (λ i. not (fit i)) n in cond (ltb k n) (Err (record { place = k })) (Ok tt)

-- the first attribute of a target vertex that has no fit result
unfoldable pub vertex_fitness : (ℕ → ℕ → Option ℤ) → Pattern Origin → Fitness
vertex_fitness read p = first_unfit (fit_at read p) (length p.attributes)

-- the first target vertex with such an attribute
unfoldable pub target_fitness : (ℕ → ℕ → Option ℤ) → Rule → Fitness
target_fitness read r = first_unfit (vertex_given read r) (length r.target)

-- what is told beside the words
unfoldable pub fitness_of : Result (List ℕ) Lack → Fitness
fitness_of (Ok words) = Ok tt
fitness_of (Err lack) = Err lack

-- the words, where there are such
unfoldable pub words_of : Result (List ℕ) Lack → List ℕ
words_of (Ok words) = words
words_of (Err lack) = []

-- what is told of a target vertex: the first attribute that has no fit result, or the words of all
pub record Told (read : ℕ → ℕ → Option ℤ) (p : Pattern Origin) (told : Result (List ℕ) Lack) : Type 0 where
  pub first : fitness_of told ≡ vertex_fitness read p
  pub given : Given (vertex_results read p) (is_fit told) (words_of told)
