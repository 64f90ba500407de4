-- Columns that are read as a decimal have its form. Assumes nothing.
use mathlib.Core.Path.{◌≡◌, refl, sym, ap, ap₂, ◌∙◌}
use mathlib.Core.Bool.{Bool, true, false, cond}
use mathlib.Core.List.{List, [], ◌∷◌, ◌++◌}
use Prim.Native.Nat.{ℕ, suc, ◌-◌, ◌<◌}
use native.Mathlib.Omega.{arith}
use borrow.Author.Tests.{eqb-true}
use lib.Dec.{eqb}
use lib.ListN.{length, take, drop, length-append, length-take}
use lib.Seq.{split_at}
use Rattle.bulletin.specs.Decimals.{past_blanks_rule, is_minus_rule, past_minus_rule, is_decimal_rule, signed, whole_digits, decimals}
use Rattle.bulletin.specs.ReadBack.{blanks, sign, ReadIsForm}
use Rattle.bulletin.proofs.FormLaws.{parts, decimals-long}
use Rattle.bulletin.proofs.FormRead.{grouped}

-- how many blanks stand at the start
count : List ℕ → ℕ
count [] = 0
count (b ∷ bs) = cond (eqb b 32) (suc (count bs)) 0

blanks_by : (b : ℕ) (bs : List ℕ) (t : Bool) → eqb b 32 ≡ t → blanks (count bs) ++ past_blanks_rule bs ≡ bs → blanks (count (b ∷ bs)) ++ past_blanks_rule (b ∷ bs) ≡ b ∷ bs
unfolding count past_blanks_rule
blanks_by b bs true e h = rw e (ap₂ (λ (x : ℕ) (y : List ℕ). x ∷ y) (sym (eqb-true b 32 e)) h)
blanks_by b bs false e h = rw e

blanks_are : (s : List ℕ) → blanks (count s) ++ past_blanks_rule s ≡ s
unfolding count past_blanks_rule
blanks_are [] = refl
blanks_are (b ∷ bs) = blanks_by b bs (eqb b 32) refl (blanks_are bs)

sign_by : (b : ℕ) (bs : List ℕ) (t : Bool) → eqb b 45 ≡ t → sign (is_minus_rule (b ∷ bs)) ++ past_minus_rule (b ∷ bs) ≡ b ∷ bs
unfolding is_minus_rule past_minus_rule
sign_by b bs true e = rw e (ap (λ (x : ℕ). x ∷ bs) (sym (eqb-true b 45 e)))
sign_by b bs false e = rw e

sign_is : (s : List ℕ) → sign (is_minus_rule s) ++ past_minus_rule s ≡ s
unfolding is_minus_rule past_minus_rule
sign_is [] = refl
sign_is (b ∷ bs) = sign_by b bs (eqb b 45) refl

-- the bytes before the point
before_is : (p : ℕ) (s : List ℕ) → blanks (count (take (length s - suc p) s)) ++ (sign (is_minus_rule (signed p s)) ++ whole_digits p s) ≡ take (length s - suc p) s
before_is p s =
    let a = take (length s - suc p) s in
    ap (λ (x : List ℕ). blanks (count a) ++ x) (sign_is (signed p s)) ∙ blanks_are a

module _ (p : ℕ) (s : List ℕ) (h : is_decimal_rule p s ≡ true) where
  abbrev point : ℕ
  point = length s - suc p

  -- the columns are at least a digit, a point and p decimals
  long : suc p < length s
  long =
      let a = take point s in
      let n = sign (is_minus_rule (signed p s)) in
      let e = ap length (before_is p s) in
      omega (arith, (parts p s h).some, e, length-append (blanks (count a)) (n ++ whole_digits p s), length-append n (whole_digits p s), length-take point s)

  whole_is : s ≡ take point s ++ (46 ∷ decimals p s)
  whole_is =
      let e : suc point ≡ length s - p = omega (arith, long) in
      split_at s point 0 (omega (arith, long)) ∙ ap₂ (λ (b n : ℕ). take point s ++ (b ∷ drop n s)) (parts p s h).point e

pub read_is_form : ReadIsForm
read_is_form p s h =
    let a = take (length s - suc p) s in
    let l = long p s h in
    record {
      k = count a;
      negative = is_minus_rule (signed p s);
      digits = whole_digits p s;
      decimals = decimals p s;
      some = (parts p s h).some;
      before = (parts p s h).digits;
      behind = (parts p s h).behind;
      long = decimals-long p s (omega arith);
      made =
          grouped (count a) (is_minus_rule (signed p s)) (whole_digits p s) (decimals p s)
          ∙ ap (λ (x : List ℕ). x ++ (46 ∷ decimals p s)) (before_is p s)
          ∙ sym (whole_is p s h);
    }
