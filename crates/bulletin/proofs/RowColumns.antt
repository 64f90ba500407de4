-- What is proved of the columns of a row into which a decimal is put: they hold blanks and the decimal, and other columns what they held. Assumes nothing.
use mathlib.Core.Path.{◌≡◌, sym, ap, ◌∙◌}
use mathlib.Core.List.{List, ◌++◌}
use mathlib.Core.Logic.{◌⊎◌, ⊎_elim}
use Prim.Native.Nat.{ℕ, suc, ◌+◌, ◌-◌, ◌≤◌, ◌<◌}
use native.Mathlib.Decide.{dec_lt}
use native.Mathlib.Omega.{arith}
use lib.ListN.{length, get_or, drop, replicate, length-append, length-replicate, get_or-replicate, get_or-append}
use lib.Seq.{get_or-take, get_or-drop, ext_get_or}
use lib.IntN.{ℤ}
use Rattle.text.proofs.Paste.{pasted-long}
use Rattle.bulletin.specs.Columns.{Place, bytes_in, with_decimal}
use Rattle.bulletin.specs.Decimals.{printed}
use Rattle.bulletin.proofs.ColumnLaws.{Apt, bytes-long}
use Rattle.bulletin.proofs.Pasting.{pasted-low, pasted_in, pasted_high, append_at}
use Rattle.bulletin.proofs.Standing.{Narrow}

-- ---- the bytes in columns of a row

-- a row that goes as far as the columns do
pub record Reaches (c : Place) (row : List ℕ) : Type 0 where
  pub apt : Apt c
  pub far : c.last ≤ length row

abbrev width : Place → ℕ
width c = suc c.last - c.first

module _ (c : Place) (row : List ℕ) (r : Reaches c row) where
  long : length (bytes_in c row) ≡ width c
  long = bytes-long r.apt row r.far

  byte_at : (i : ℕ) → i < width c → get_or (bytes_in c row) i 0 ≡ get_or row (c.first - 1 + i) 0
  byte_at i l = get_or-take (width c) (drop (c.first - 1) row) i 0 l ∙ get_or-drop (c.first - 1) row i 0

-- rows that are the same in columns
pub bytes_same : (c : Place) (row other : List ℕ) → Reaches c row → Reaches c other
    → ((i : ℕ) → c.first - 1 ≤ i → i < c.last → get_or row i 0 ≡ get_or other i 0) → bytes_in c row ≡ bytes_in c other
bytes_same c row other r s e =
    ext_get_or 0 (bytes_in c row) (bytes_in c other) (long c row r ∙ sym (long c other s))
    (λ i l.
    let m : i < width c = omega (arith, l, long c row r) in
    byte_at c row r i m ∙ e (c.first - 1 + i) (omega arith) (omega (arith, m, r.apt)) ∙ sym (byte_at c other s i m))

-- ---- with a decimal put there

module _ (c : Place) (row : List ℕ) (z : ℤ) (r : Reaches c row) (n : Narrow c z) where
  abbrev text : List ℕ
  text = printed c.decimals z

  abbrev at : ℕ
  at = c.last - length text

  fits : at + length text ≤ length row
  fits = omega (arith, n, r.far, r.apt)

  pub with_long : length (with_decimal c row z) ≡ length row
  unfolding with_decimal
  with_long = pasted-long row at text fits

  -- a byte before the columns, and one behind them
  with_before : (i : ℕ) → i < c.first - 1 → get_or (with_decimal c row z) i 0 ≡ get_or row i 0
  unfolding with_decimal
  with_before i l = pasted-low row at text fits i (omega (arith, n, r.apt))

  pub with_behind : (i : ℕ) → c.last ≤ i → get_or (with_decimal c row z) i 0 ≡ get_or row i 0
  unfolding with_decimal
  with_behind i l = pasted_high row at text fits i (omega (arith, n, r.apt))

  with_reaches : (e : Place) → Reaches e row → Reaches e (with_decimal c row z)
  with_reaches e s = record { apt = s.apt; far = omega (arith, s.far, with_long) }

  -- columns before these, or behind them
  pub bytes_other : (e : Place) → Reaches e row → (e.last < c.first) ⊎ (c.last < e.first) → bytes_in e (with_decimal c row z) ≡ bytes_in e row
  bytes_other e s =
      ⊎_elim
      (λ h. bytes_same e (with_decimal c row z) row (with_reaches e s) s (λ i l m. with_before i (omega (arith, h, m))))
      (λ h. bytes_same e (with_decimal c row z) row (with_reaches e s) s (λ i l m. with_behind i (omega (arith, h, l))))

  -- these columns, where they were blank
  module _ (blank : bytes_in c row ≡ replicate (width c) 32) where
    abbrev room : ℕ
    room = width c - length text

    abbrev made : List ℕ
    made = replicate room 32 ++ text

    made-long : length made ≡ width c
    made-long = length-append (replicate room 32) text ∙ omega (arith, n, length-replicate {A = ℕ} room 32)

    was_blank : (i : ℕ) → i < width c → get_or row (c.first - 1 + i) 0 ≡ 32
    was_blank i l = sym (byte_at c row r i l) ∙ ap (λ (s : List ℕ). get_or s i 0) blank ∙ get_or-replicate (width c) i 32 0 l

    same_at : (i : ℕ) → i < width c → Dec (i < room) → get_or (with_decimal c row z) (c.first - 1 + i) 0 ≡ get_or made i 0
    unfolding with_decimal
    same_at i l (yes b) =
        pasted-low row at text fits (c.first - 1 + i) (omega (arith, b, n, r.apt))
        ∙ was_blank i l
        ∙ sym (get_or-append (replicate room 32) text 0 i (omega (arith, b, length-replicate {A = ℕ} room 32)) ∙ get_or-replicate room i 32 0 b)
    same_at i l (no b) =
        let j = i - room in
        let e : at + j ≡ c.first - 1 + i = omega (arith, b, l, n, r.apt) in
        let f : room + j ≡ i = omega (arith, b) in
        ap (λ (k : ℕ). get_or (with_decimal c row z) k 0) (sym e)
        ∙ pasted_in row at text fits j (omega (arith, b, l, n))
        ∙ sym (append_at (replicate room 32) text room j (length-replicate {A = ℕ} room 32))
        ∙ ap (λ (k : ℕ). get_or made k 0) f

    pub bytes_here : bytes_in c (with_decimal c row z) ≡ made
    bytes_here =
        let s = with_reaches c r in
        ext_get_or 0 (bytes_in c (with_decimal c row z)) made (long c (with_decimal c row z) s ∙ sym made-long)
        (λ i l.
        let m : i < width c = omega (arith, l, long c (with_decimal c row z) s) in
        byte_at c (with_decimal c row z) s i m ∙ same_at i m (dec_lt i room))
