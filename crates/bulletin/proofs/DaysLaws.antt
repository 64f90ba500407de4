-- What `days_from_rows` answers, test by test in the order of its numbers. Assumes nothing.
use mathlib.Core.Path.{◌≡◌, refl, sym, ap, ◌∙◌}
use mathlib.Core.Bool.{Bool, true, false, cond, ◌&&◌}
use mathlib.Core.List.{List}
use Prim.Native.Nat.{ℕ, ◌≤◌}
use native.Mathlib.Omega.{arith}
use lib.Dec.{leb}
use lib.ListN.{length}
use lib.IntN.{ℤ, pos}
use Rattle.whole.specs.Whole.{pos_part, ∣◌∣}
use Rattle.whole.specs.Ranges.{eq_z}
use Rattle.whole.specs.Each.{all_below}
use Rattle.whole.specs.Answers.{given}
use Rattle.whole.proofs.Linear.{and_true, in_yes, eq⇒, no_tf}
use Rattle.whole.proofs.Order.{eq_z_true}
use Rattle.fields.specs.Ranges.{inside, mjd}
use Rattle.bulletin.specs.Reading.{day_count, in_ranges_rule, all_dated, taken_filled_rule, days_there_rule, record_of_rule, values_right, days_number, records, days, no_days_rule, days_outcome}
use Rattle.bulletin.specs.Code.{given_records}

-- of four tests joined one of the first three fails
one_fails : (a b c d : Bool) → (a && (b && c)) ≡ false → (a && (b && (c && d))) ≡ false
one_fails true true true d e = no_tf e
one_fails true true false d e = refl
one_fails true false c d e = refl
one_fails false b c d e = refl

module _ (text : List ℕ) (first count : ℤ) (tai : List ℤ) where
  pub too_long : leb (length text) 65536 ≡ false → days_outcome text first count tai ≡ no_days_rule 1
  unfolding days_outcome days_number given
  too_long e = simp e

  module _ (a : leb (length text) 65536 ≡ true) where
    pub some_undated : all_dated text ≡ false → days_outcome text first count tai ≡ no_days_rule 10
    unfolding days_outcome days_number given
    some_undated e = simp (a, e)

    module _ (d : all_dated text ≡ true) where
      pub some_unfilled : taken_filled_rule text first count ≡ false → days_outcome text first count tai ≡ no_days_rule 10
      unfolding days_outcome days_number given
      some_unfilled e = simp (a, d, e)

      module _ (f : taken_filled_rule text first count ≡ true) where
        pub some_missing : days_there_rule text first count ≡ false → days_outcome text first count tai ≡ no_days_rule 11
        unfolding days_outcome days_number given
        some_missing e = simp (a, d, f, e)

        module _ (t : days_there_rule text first count ≡ true) where
          values_no : values_right text first count tai ≡ false → days_outcome text first count tai ≡ no_days_rule 2
          unfolding days_outcome days_number given
          values_no e = simp (a, d, f, t, e)

          values_yes : values_right text first count tai ≡ true → days_outcome text first count tai ≡ days (records text first count tai)
          unfolding days_outcome days_number given
          values_yes e = simp (a, d, f, t, e)

          pub values_wrong : (inside mjd first && (inside day_count count && eq_z (pos (length tai)) count)) ≡ false → days_outcome text first count tai ≡ no_days_rule 2
          unfolding values_right
          values_wrong e = values_no (one_fails (inside mjd first) (inside day_count count) (eq_z (pos (length tai)) count) _ e)

          module _ (v : (inside mjd first && (inside day_count count && eq_z (pos (length tai)) count)) ≡ true) where
            first_in_lem : inside mjd first ≡ true
            first_in_lem = (and_true (inside mjd first) _ v).0

            count_in_lem : inside day_count count ≡ true
            count_in_lem = (and_true (inside day_count count) _ (and_true (inside mjd first) _ v).1).0

            same : eq_z (pos (length tai)) count ≡ true
            same = (and_true (inside day_count count) _ (and_true (inside mjd first) _ v).1).1

            pub count_is : pos (length tai) ≡ count
            count_is = eq_z_true (pos (length tai)) count same

            pub few_days : length tai ≤ 64
            few_days = let i = in_yes (pos 2) (pos 64) count count_in_lem in omega (arith, i.p_hi, eq⇒ (pos (length tai)) count count_is)

            pub first_small : ∣ first ∣ ≤ 100_000
            first_small = let i = in_yes (pos 41317) (pos 69806) first first_in_lem in omega (arith, i.p_hi, i.n_lo)

            right_by : (r : Bool) → all_below (pos_part count) (λ (k : ℕ). in_ranges_rule (record_of_rule text first count tai k)) ≡ r → values_right text first count tai ≡ r
            unfolding values_right
            right_by r e = simp (first_in_lem, count_in_lem, same) e

            given_by : (r : Bool) → all_below (pos_part count) (λ (k : ℕ). in_ranges_rule (record_of_rule text first count tai k)) ≡ r
                → days_outcome text first count tai ≡ cond (all_below (pos_part count) (λ (k : ℕ). in_ranges_rule (record_of_rule text first count tai k))) (days (records text first count tai)) (no_days_rule 2)
            given_by true e = rw e (values_yes (right_by true e))
            given_by false e = rw e (values_no (right_by false e))

            pub values_given : days_outcome text first count tai ≡ given_records text first tai
            unfolding given_records
            values_given =
                given_by (all_below (pos_part count) (λ (k : ℕ). in_ranges_rule (record_of_rule text first count tai k))) refl
                ∙ ap (λ (n : ℤ). cond (all_below (pos_part n) (λ (k : ℕ). in_ranges_rule (record_of_rule text first n tai k))) (days (records text first n tai)) (no_days_rule 2)) (sym count_is)
