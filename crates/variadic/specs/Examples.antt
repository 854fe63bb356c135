-- Worked examples of variadic rules: n gains behind one concatenation become one gain behind it.
-- Assumes nothing.
use Rattle.std.specs.Prelude.{false, List, [], ◌∷◌, ℕ, pos}
use Rattle.definitions.specs.Graph.{Slot, Graph}
use Rattle.definitions.specs.Rule.{add, Expression, anything, constant, access, apply, given, made, Pattern, Rule}
use Rattle.definitions.specs.Variadic.{VariadicRule}

-- Source: 0 a template wildcard, 1 a template gain, 2 the Tuple, 3 concat. Target: 0 the Tuple over the wildcards, 1 concat, 2 gain,
-- whose second attribute is the sum of the indices, and whose third the sum of the gains' second attributes.
abbrev pub gains : List ℕ
gains =
    76 ∷ 71 ∷ 82 ∷ 0 ∷ 2 ∷ 0 ∷ 4 ∷ 3 ∷ 1 ∷ 7 ∷ 3 ∷ 255 ∷ 18 ∷ 255 ∷ 2 ∷ 0
    ∷ 128 ∷ 0 ∷ 0 ∷ 0 ∷ 255 ∷ 255 ∷ 255 ∷ 255 ∷ 255 ∷ 255 ∷ 255 ∷ 255 ∷ 255 ∷ 255 ∷ 255 ∷ 255
    ∷ 131 ∷ 10 ∷ 1 ∷ 3 ∷ 0 ∷ 255 ∷ 255 ∷ 255 ∷ 255 ∷ 255 ∷ 0 ∷ 1 ∷ 1 ∷ 255 ∷ 255 ∷ 255
    ∷ 4 ∷ 0 ∷ 1 ∷ 0 ∷ 1 ∷ 255 ∷ 255 ∷ 255 ∷ 255 ∷ 255 ∷ 255 ∷ 255 ∷ 255 ∷ 255 ∷ 255 ∷ 255
    ∷ 3 ∷ 8 ∷ 1 ∷ 1 ∷ 2 ∷ 255 ∷ 255 ∷ 255 ∷ 255 ∷ 255 ∷ 1 ∷ 255 ∷ 255 ∷ 255 ∷ 255 ∷ 255
    ∷ 4 ∷ 0 ∷ 1 ∷ 0 ∷ 0 ∷ 255 ∷ 255 ∷ 255 ∷ 255 ∷ 255 ∷ 255 ∷ 255 ∷ 255 ∷ 255 ∷ 255 ∷ 255
    ∷ 3 ∷ 8 ∷ 1 ∷ 1 ∷ 16 ∷ 255 ∷ 255 ∷ 255 ∷ 255 ∷ 255 ∷ 2 ∷ 255 ∷ 255 ∷ 255 ∷ 255 ∷ 255
    ∷ 3 ∷ 10 ∷ 1 ∷ 3 ∷ 17 ∷ 255 ∷ 255 ∷ 255 ∷ 255 ∷ 255 ∷ 0 ∷ 4 ∷ 6 ∷ 255 ∷ 255 ∷ 255
    ∷ 1 ∷ 0 ∷ 0 ∷ 0 ∷ 2 ∷ 0 ∷ 0 ∷ 0
    ∷ 0 ∷ 0 ∷ 0 ∷ 0 ∷ 0 ∷ 0 ∷ 0 ∷ 0
    ∷ 2 ∷ 3 ∷ 1 ∷ 0 ∷ 0 ∷ 0 ∷ 0 ∷ 0
    ∷ 8 ∷ 0 ∷ 0 ∷ 0 ∷ 0 ∷ 0 ∷ 0 ∷ 0
    ∷ 9 ∷ 3 ∷ 0 ∷ 0 ∷ 0 ∷ 0 ∷ 0 ∷ 0
    ∷ 2 ∷ 1 ∷ 2 ∷ 0 ∷ 0 ∷ 0 ∷ 0 ∷ 0
    ∷ 9 ∷ 5 ∷ 0 ∷ 0 ∷ 0 ∷ 0 ∷ 0 ∷ 0 ∷ []

abbrev pattern : {P : Type 0} → ℕ → ℕ → List P → List Expression → Pattern P
pattern kind operator inputs attributes = record { kind = kind; operator = operator; inputs = inputs; attributes = attributes }

abbrev pub gains_of_one : Rule
gains_of_one = record {
  source =
      pattern 0 0 [] []
      ∷ pattern 3 10 (0 ∷ []) (constant (pos 2) ∷ anything ∷ anything ∷ [])
      ∷ pattern 4 0 (1 ∷ []) []
      ∷ pattern 3 8 (2 ∷ []) (anything ∷ [])
      ∷ [];
  target =
      pattern 4 0 (given 0 ∷ []) []
      ∷ pattern 3 8 (made 0 ∷ []) (access 3 1 ∷ [])
      ∷ pattern 3 10 (made 1 ∷ []) (constant (pos 2) ∷ constant (pos 1) ∷ access 1 2 ∷ [])
      ∷ [];
  source_outputs = 3 ∷ [];
  target_outputs = made 2 ∷ [];
}

abbrev pub gains_of_three : Rule
gains_of_three = record {
  source =
      pattern 0 0 [] []
      ∷ pattern 3 10 (0 ∷ []) (constant (pos 2) ∷ anything ∷ anything ∷ [])
      ∷ pattern 0 0 [] []
      ∷ pattern 3 10 (2 ∷ []) (constant (pos 2) ∷ anything ∷ anything ∷ [])
      ∷ pattern 0 0 [] []
      ∷ pattern 3 10 (4 ∷ []) (constant (pos 2) ∷ anything ∷ anything ∷ [])
      ∷ pattern 4 0 (1 ∷ 3 ∷ 5 ∷ []) []
      ∷ pattern 3 8 (6 ∷ []) (anything ∷ [])
      ∷ [];
  target =
      pattern 4 0 (given 0 ∷ given 2 ∷ given 4 ∷ []) []
      ∷ pattern 3 8 (made 0 ∷ []) (access 7 1 ∷ [])
      ∷ pattern 3 10 (made 1 ∷ []) (
      constant (pos 2)
      ∷ apply add (apply add (constant (pos 1)) (constant (pos 2))) (constant (pos 3))
      ∷ apply add (apply add (access 1 2) (access 3 2)) (access 5 2)
      ∷ []
      )
      ∷ [];
  source_outputs = 7 ∷ [];
  target_outputs = made 2 ∷ [];
}

-- two heads: three gains behind a concatenation of slots 3 to 5, and one behind another
abbrev slot : ℕ → ℕ → List ℕ → List ℕ → Slot
slot kind operator inputs attributes = record { kind = kind; operator = operator; inputs = inputs; attributes = attributes }

abbrev pub heads : Graph
heads = record {
  slots =
      slot 2 0 [] (1 ∷ 3 ∷ 8 ∷ 8 ∷ 1 ∷ [])
      ∷ slot 2 0 [] (1 ∷ 3 ∷ 8 ∷ 8 ∷ 1 ∷ [])
      ∷ slot 2 0 [] (1 ∷ 3 ∷ 8 ∷ 8 ∷ 1 ∷ [])
      ∷ slot 3 10 (0 ∷ []) (2 ∷ 10 ∷ 1 ∷ [])
      ∷ slot 3 10 (1 ∷ []) (2 ∷ 20 ∷ 1 ∷ [])
      ∷ slot 3 10 (2 ∷ []) (2 ∷ 30 ∷ 1 ∷ [])
      ∷ slot 4 0 (3 ∷ 4 ∷ 5 ∷ []) []
      ∷ slot 3 8 (6 ∷ []) (1 ∷ [])
      ∷ [];
  outputs = 7 ∷ [];
}

-- a rule without templates whose target does not stand in visiting order: add(mean x, relu x), with relu first
abbrev pub crossed : VariadicRule
crossed = record {
  plain = record {
    source = pattern 0 0 [] [] ∷ pattern 3 7 (0 ∷ []) [] ∷ [];
    target =
        pattern 3 7 (given 0 ∷ []) []
        ∷ pattern 3 12 (given 0 ∷ []) (constant (pos 1) ∷ [])
        ∷ pattern 3 1 (made 1 ∷ made 0 ∷ []) []
        ∷ [];
    source_outputs = 1 ∷ [];
    target_outputs = made 2 ∷ [];
  };
  source_template = λ v. false;
  target_template = λ t. false;
  source_tuple = 255;
  target_tuple = 255;
}
