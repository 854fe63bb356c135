-- The loop's invariant: with as many places as are left, the digits reach the bounds without their last digits where they reach the bounds.
use mathlib.Core.Path.{◌≡◌}
use Prim.Native.Nat.{◌-◌}
use Rattle.listing.specs.Typing as typing
use Rattle.listing_numbers.proofs.reaches.Given as goal

abbrev pub invariant-loop-place : goal.invariant-loop-place
invariant-loop-place l = typing.reaches 10 l.d l.low l.high ≡ typing.reaches (10 - l.place) l.d l.l l.h
