-- `bulletin::form::units_of` meets its contract: the digits before the point are read, and on from them those behind it. Assumes nothing.
use mathlib.Core.Path.{◌≡◌, sym, ap, ap₂, ◌∙◌}
use mathlib.Core.List.{List}
use Prim.Native.Nat.{ℕ, suc, ◌+◌, ◌-◌, ◌≤◌, ◌<◌}
use native.Mathlib.Nat.{pow-le-pow_right}
use native.Mathlib.Omega.{arith}
use lib.ListN.{length, take, drop}
use Rattle.whole.specs.Whole.{sign_of}
use Rattle.whole.proofs.Linear.{ret}
use Rattle.text.specs.Decimal.{all_digits_rule, read_from_rule, read}
use Rattle.bulletin.specs.Decimals.{past_blanks_rule, is_minus_rule, past_minus_rule, signed, whole_digits, decimals}
use Rattle.bulletin.proofs.FormLaws.{front_is, back_is, decimals-long, parts, whole-short, whole_below, all_below_lem, units_are}
use Rattle.bulletin.proofs.form.units_of.Goals as goal

-- the number before the point, and its digits
signed_is : (p : ℕ) (s : List ℕ) {b : List ℕ} → p + 1 < length s → b ≡ past_blanks_rule (take (length s - p - 1 - 0) s) → b ≡ signed p s
signed_is p s h e = e ∙ ap past_blanks_rule (front_is p s h)

digits_are : (p : ℕ) (s : List ℕ) {b d : List ℕ} → p + 1 < length s → b ≡ past_blanks_rule (take (length s - p - 1 - 0) s) → d ≡ past_minus_rule b → d ≡ whole_digits p s
digits_are p s h e f = f ∙ ap past_minus_rule (signed_is p s h e)

pub read_natural-n-requires : goal.read_natural-n-requires
read_natural-n-requires c =
    let e = digits_are c.args.p c.args.s.now c.requires.0 c.past_blanks-signed.ensures c.past_minus.ensures in (
      ap all_digits_rule e ∙ (parts c.args.p c.args.s.now c.requires.2).digits,
      omega (arith, ap length e, whole-short c.args.p c.args.s.now, c.requires.1),
    )

pub read_on-requires : goal.read_on-requires
read_on-requires c =
    let p = c.args.p in
    let s = c.args.s.now in
    let h = c.requires.0 in
    let r : c.read_natural-n.result ≡ read (whole_digits p s) = c.read_natural-n.ensures ∙ ap read (digits_are p s h c.past_blanks-signed.ensures c.past_minus.ensures) in
    let e = back_is p s h in
    let l = ap length e ∙ decimals-long p s h in
    let m : length s - suc p ≤ 19 - p = omega (arith, h, c.requires.1) in (
      ap all_digits_rule e ∙ (parts p s c.requires.2).behind,
      omega (arith, l, h, c.requires.1),
      rw l (omega (arith, r, whole_below p s h c.requires.2, pow-le-pow_right {n = 10} (omega arith) m)),
    )

read_on_is : (p : ℕ) (s : List ℕ) {b d : List ℕ} {n m : ℕ} → (h : p + 1 < length s) → b ≡ past_blanks_rule (take (length s - p - 1 - 0) s) → d ≡ past_minus_rule b → n ≡ read d
    → m ≡ read_from_rule n (take (length s - (length s - p - 1 + 1)) (drop (length s - p - 1 + 1) s)) → m ≡ read_from_rule (read (whole_digits p s)) (decimals p s)
read_on_is p s h e f g r = r ∙ ap₂ read_from_rule (g ∙ ap read (digits_are p s h e f)) (back_is p s h)

pub with_sign-requires : goal.with_sign-requires
with_sign-requires c =
    let p = c.args.p in
    let s = c.args.s.now in
    let h = c.requires.0 in
    let r = read_on_is p s h c.past_blanks-signed.ensures c.past_minus.ensures c.read_natural-n.ensures c.read_on.ensures in
    let l : length s - 1 ≤ 9 = omega (arith, c.requires.1) in
    omega (arith, r, all_below_lem p s h c.requires.2, pow-le-pow_right {n = 10} (omega arith) l)

pub returns : goal.returns
returns c =
    let p = c.args.p in
    let s = c.args.s.now in
    let h = c.requires.0 in
    let r = read_on_is p s h c.past_blanks-signed.ensures c.past_minus.ensures c.read_natural-n.ensures c.read_on.ensures in
    ret c.with_sign.result c.with_sign.type_inv
    ∙ c.with_sign.ensures
    ∙ ap₂ sign_of (c.is_minus.ensures ∙ ap is_minus_rule (signed_is p s h c.past_blanks-signed.ensures)) r
    ∙ sym (units_are p s h c.requires.2)
