-- `fringe::together::first_refused` meets its contract: pass i and the passes behind it give the number, with the segments that are left.
use mathlib.Core.Path.{◌≡◌, sym, ap, ap₂, ◌∙◌}
use mathlib.Core.Bool.{Bool}
use mathlib.Core.List.{List}
use Prim.Native.Nat.{ℕ, suc, ◌+◌, ◌-◌, ◌≤◌, ◌<◌}
use native.Mathlib.Numerals.{add-one}
use native.Mathlib.Omega.{arith}
use lib.Dec.{leb}
use Rattle.std.proofs.lemmas.Result.{err_from_is_err_and}
use Rattle.fields.specs.declared.Pass.{Pass}
use Rattle.sections.specs.File.{refusal_of_rule, count_of_rule}
use Rattle.sections.proofs.Refused.{some_number}
use Rattle.session.specs.Records.{pass_of_rule}
use Rattle.delay.specs.Keeping.{lacks_of}
use Rattle.delay.proofs.Numbers.{lacks_number}
use Rattle.fringe.specs.PassTrack.{pass_number}
use Rattle.fringe.specs.Sharing.{most_of, most_from_rule, number_from_rule, taken_by_rule, taken_of}
use Rattle.fringe.proofs.Passes.{taken_same}
use Rattle.fringe.proofs.Sharing.{from_next, from_all, most-next, first_lacking_lem, first_eight, first-behind}
use Rattle.fringe.proofs.together.first_refused.Goals as goal

-- pass i is one of n passes, and `others` of them stand behind it
module _ (n i left most all : ℕ) (file : List ℕ) (l : i < n) where
  abbrev others : ℕ
  others = n - (i + 1)

  from_here : number_from_rule file (n - i) i left ≡ all → number_from_rule file (suc others) i left ≡ all
  from_here e = ap (λ (m : ℕ). number_from_rule file m i left) (sym (from_next n i l)) ∙ e

  ample : most ≡ most_from_rule file (n - i) i → leb (most_from_rule file (suc others) i) left ≡ leb most left
  ample e = ap (λ (m : ℕ). leb m left) (sym (e ∙ ap (λ (m : ℕ). most_from_rule file m i) (from_next n i l)))

-- the pass as it was read: what is lacking for it, and what it takes
lacks_are : (s t : List ℕ) (i n : ℕ) (p : Pass) → t ≡ s → p ≡ pass_of_rule s i → refusal_of_rule s ≡ 0 → i < count_of_rule s 3 → n ≡ lacks_of t p 4096 → n ≡ pass_number s i
lacks_are s t i n p f e z l k = k ∙ ap₂ (λ (s : List ℕ) (p : Pass). lacks_of s p 4096) f e ∙ sym (lacks_number s i 4096 z l)

taken_are : (s t : List ℕ) (i m : ℕ) (p : Pass) (b : Bool) → t ≡ s → p ≡ pass_of_rule s i → pass_number s i ≡ 0 → m ≡ taken_of t p b → m ≡ taken_by_rule s i b
taken_are s t i m p b f e z k = k ∙ ap₂ (λ (s : List ℕ) (p : Pass). taken_of s p b) f e ∙ taken_same s i b z

pub returns-in_err-taken : goal.returns-in_err-taken
returns-in_err-taken c =
    let s = c.args.session in
    let f = s.file.now in
    let n = count_of_rule f 3 in
    let a = c.loop-i in
    let x = c.in_err-taken.field-0.0 in
    let l : a.i < n = omega arith in
    let w : a.i + suc (n - (a.i + 1)) ≤ count_of_rule f 3 = omega arith in
    let e = lacks_are f _ a.i _ _ c.at-p.ensures.0 c.at-p.ensures.1 s.accepted l c.in_err-taken.ensures.number in
    let p = err_from_is_err_and c.from_residual.result c.from_residual.ensures.1 in
    rw (p.1, p.2)
    (e ∙ sym (first_lacking_lem f s.accepted (n - (a.i + 1)) a.i a.left w (λ z. some_number x (e ∙ z))) ∙ from_here n a.i a.left a.most _ f l a.invariant.1)

pub returns-then-left-taken : goal.returns-then-left-taken
returns-then-left-taken c =
    let s = c.args.session in
    let f = s.file.now in
    let n = count_of_rule f 3 in
    let a = c.loop-i in
    let l : a.i < n = omega arith in
    let w : a.i + suc (n - (a.i + 1)) ≤ count_of_rule f 3 = omega arith in
    let none = sym (lacks_are f _ a.i _ _ c.at-p.ensures.0 c.at-p.ensures.1 s.accepted l c.in_ok-taken.ensures.number) in
    let k = taken_are f _ a.i _ _ (leb a.most a.left) c.at-p.ensures.0 c.at-p.ensures.1 none c.in_ok-taken.ensures.segments in
    sym (first_eight f s.accepted (n - (a.i + 1)) a.i a.left w none _ (ample n a.i a.left a.most 0 f l a.invariant.0) (rw k at c.if-left-taken.true))
    ∙ from_here n a.i a.left a.most _ f l a.invariant.1

pub overflow_sub-most : goal.overflow_sub-most
overflow_sub-most c =
    let f = c.args.session.file.now in
    let n = count_of_rule f 3 in
    let l : c.loop-i.i < n = omega arith in
    let e = c.most_segments-most.ensures.0 ∙ ap most_of c.at-p.ensures.1 in
    omega (arith, e, c.loop-i.invariant.0 ∙ most-next f n c.loop-i.i l)

pub loop-i-preserved : goal.loop-i-preserved
loop-i-preserved c =
    let s = c.args.session in
    let f = s.file.now in
    let n = count_of_rule f 3 in
    let a = c.loop-i in
    let l : a.i < n = omega arith in
    let w : a.i + suc (n - (a.i + 1)) ≤ count_of_rule f 3 = omega arith in
    let none = sym (lacks_are f _ a.i _ _ c.at-p.ensures.0 c.at-p.ensures.1 s.accepted l c.in_ok-taken.ensures.number) in
    let k = taken_are f _ a.i _ _ (leb a.most a.left) c.at-p.ensures.0 c.at-p.ensures.1 none c.in_ok-taken.ensures.segments in
    let e = c.most_segments-most.ensures.0 ∙ ap most_of c.at-p.ensures.1 in
    let g = first-behind f s.accepted (n - (a.i + 1)) a.i a.left w none (leb a.most a.left) (ample n a.i a.left a.most 0 f l a.invariant.0) (rw k at c.if-left-taken.false) in (
      omega (arith, e, a.invariant.0 ∙ most-next f n a.i l),
      ap₂ (λ (j k : ℕ). number_from_rule f (n - (a.i + 1)) j (a.left - k)) (add-one a.i) k ∙ sym g ∙ from_here n a.i a.left a.most _ f l a.invariant.1,
    )

pub returns : goal.returns
unfolding number_from_rule
returns c =
    let f = c.args.session.file.now in
    let n = count_of_rule f 3 in
    let a = c.loop-i in
    ap (λ (m : ℕ). number_from_rule f m a.i a.left) (sym (from_all n a.i (omega arith))) ∙ a.invariant.1
