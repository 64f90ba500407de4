-- Cases that document 01 names, 'Numbers to meet': an input of a call, and its whole answer as numbers: refusal, values, zeros, and the room after the call.
-- Each crate has those of its own calls; crate `fringe` joins them to one table.
use Rattle.std.specs.Prelude.{◌≡◌, List, map, ℤ}

pub record Case (A : Type 0) : Type 0 where
  pub input : A
  pub wanted : List ℤ

abbrev pub case : {A : Type 0} → A → List ℤ → Case A
case i w = record { input = i; wanted = w }

-- every input's answer is the one wanted
abbrev pub Hold : {A : Type 0} → (A → List ℤ) → List (Case A) → Type 0
Hold {A = A} answer cases = map (λ (c : Case A). answer c.input) cases ≡ map (λ (c : Case A). c.wanted) cases
