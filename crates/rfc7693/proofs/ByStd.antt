-- The RFC's formulas for a turn, a word and a byte (sections 2.3 and 2.4) say what std's rotate_right, from_le_bytes and to_le_bytes answer.
use Rattle.std.proofs.Common.{◌≡◌, ℕ, zero, suc, ◌+◌, ◌-◌, ◌*◌, ◌/◌, ◌%◌, ◌^◌, ◌<◌, List, get_or, drop, refl, sym, ap, ◌∙◌, add-zero, le_of_suc-le-suc, not-suc-le-zero, arith, lit<}
use native.Mathlib.Nat.{mul-suc, pow-suc, div-one, mod-eq_of_lt, mul-mod_left}
use lib.Bits.{or_shifted_r, xor_shifted, xor_comm}
use lib.Pow.{pow-add, shr_lt, shl-shr, mod-pow-add}
use Rattle.std.proofs.lemmas.List.{get_or-take, get_or-drop}
use Rattle.std.specs.Prelude.{slice_index}
use Rattle.std.specs.Int.{w64, rotate_right, from_le_bytes, to_le_bytes, bytes_low_first, byte_at}
use Rattle.fields.specs.Fields.{part}
use Rattle.rfc7693.specs.Rfc7693.{rotr, word, byte}

-- what a turn brings to the top: the n lowest bits
brought : (n x : ℕ) → n < 64 → x * 2 ^ (64 - n) % 2 ^ 64 ≡ x % 2 ^ n * 2 ^ (64 - n)
brought n x h =
    let e : n + (64 - n) ≡ 64 = omega arith in
    ap (λ (k : ℕ). x * 2 ^ (64 - n) % 2 ^ k) (sym e) ∙ mod-pow-add (x * 2 ^ (64 - n)) n (64 - n)
    ∙ rw (shl-shr x (64 - n), mul-mod_left x (2 ^ (64 - n)), add-zero)

pub rotr_is : (n x : ℕ) → 0 < n → n < 64 → x < 2 ^ 64 → rotate_right w64 x n ≡ rotr n x
unfolding rotr
rotr_is n x some few small =
    let by : n % 64 ≡ n = mod-eq_of_lt few in
    let back : (64 - n) % 64 ≡ 64 - n = mod-eq_of_lt (omega arith) in
    let e : 64 - n + n ≡ 64 = omega arith in
    let low : x / 2 ^ n < 2 ^ (64 - n) = shr_lt (64 - n) n (rw e small) in
    rw (by, back, brought n x few, or_shifted_r (x % 2 ^ n) (64 - n) (x / 2 ^ n) low, xor_comm (x / 2 ^ n) (x % 2 ^ n * 2 ^ (64 - n)), xor_shifted (x % 2 ^ n) (64 - n) (x / 2 ^ n) low)

pub word_is : (s : List ℕ) (i : ℕ) → from_le_bytes w64 (part s i 8) ≡ word s i
unfolding word
word_is s i =
    let b : (n : ℕ) → n < 8 → get_or (part s i 8) n 0 ≡ get_or s (i + n) 0 = λ n lt. rw (get_or-take 8 (drop i s) n 0 lt, get_or-drop i s n 0) in
    let z : get_or (part s i 8) 0 0 ≡ get_or s i 0 = simp add-zero at (b 0 (lit< tt)) in
    omega (arith, b 1 (lit< tt), b 2 (lit< tt), b 3 (lit< tt), b 4 (lit< tt), b 5 (lit< tt), b 6 (lit< tt), b 7 (lit< tt))

-- std counts what a byte is worth by powers of 256
worth : (m : ℕ) → 256 ^ m ≡ 2 ^ (8 * m)
worth zero = refl
worth (suc m) = pow-suc 256 m ∙ ap (λ (x : ℕ). x * 256) (worth m) ∙ sym (ap (λ (k : ℕ). 2 ^ k) (mul-suc 8 m) ∙ pow-add 2 (8 * m) 8)

taken : (w m : ℕ) → byte_at m w ≡ byte w m
unfolding byte
taken w zero = ap (λ (x : ℕ). x % 256) (sym (div-one w))
taken w (suc m) = ap (λ (p : ℕ). w / p % 256) (worth (suc m))

listed : (i k w j : ℕ) → j < k → get_or (bytes_low_first i k w) j 0 ≡ byte_at (i + j) w
listed i zero w j h = absurd (not-suc-le-zero h)
listed i (suc k) w zero h = rw add-zero
listed i (suc k) w (suc j) h =
    let e : suc i + j ≡ i + suc j = omega arith in
    listed (suc i) k w j (le_of_suc-le-suc h) ∙ ap (λ (m : ℕ). byte_at m w) e

pub byte_is : (w j : ℕ) → j < 8 → slice_index (to_le_bytes w64 w) j ≡ byte w j
byte_is w j h =
    let e : 0 + j ≡ j = omega arith in
    listed 0 8 w j h ∙ ap (λ (m : ℕ). byte_at m w) e ∙ taken w j
