-- 01, "Numbers the host sees": what a host is told of an answer.
use Rattle.std.specs.Prelude.{ℕ, Result, Ok, Err}
use Rattle.newmm_rules.specs.declared.Ends.{Ends}
use Rattle.refusal.specs.declared.Refusal.{Refusal}
use Rattle.refusal.specs.Numbers.{number_of, detail_of}

-- The number that a call returns, and the numbers that it sets. A cut alone has edges: for any
-- other call they are 0.
pub record Told : Type 0 where
  pub number : ℕ
  pub count : ℕ
  pub edges : ℕ
  pub detail : ℕ

-- What a call told, by the number that it returned and those that it set.
abbrev pub told : (number count detail : ℕ) → Told
told number count detail = record { number = number; count = count; edges = 0; detail = detail }

abbrev pub told_cut : (number count edges detail : ℕ) → Told
told_cut number count edges detail = record { number = number; count = count; edges = edges; detail = detail }

-- 0 is no refusal's number, and stands for an accepted call, which has no detail.
abbrev pub accepted : (count edges : ℕ) → Told
accepted count edges = told_cut 0 count edges 0

-- A refused call has no count and no edges.
abbrev pub refused : Refusal → Told
refused r = told_cut (number_of r) 0 0 (detail_of r)

-- What is to be told of an answer.
abbrev pub tells : Result ℕ Refusal → Told
tells (Ok n) = accepted n 0
tells (Err r) = refused r

abbrev pub tells_cut : Result Ends Refusal → Told
tells_cut (Ok told) = accepted told.ends told.edges
tells_cut (Err r) = refused r
