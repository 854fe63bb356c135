-- Everything that document 01 means, in its order. What is promised in these words stands in answers/specs/Statements; docs/EVIDENCE.md
-- says what a reader has to believe beside the two.
pub mod Lists
pub mod Fields
pub mod Operators
pub mod Reply
pub mod Paths
pub mod Graph
pub mod Rule
pub mod Faults
pub mod Attributes
pub mod Match
pub mod Rewriting
pub mod Operations
pub mod Sweep
pub mod Squeeze
pub mod Import
pub mod ReadElsewhere
pub mod Numerals
pub mod Sheet
pub mod Listing
pub mod Results
pub mod FixedRule
pub mod Variadic
pub mod VariadicBlock
pub mod Widths
