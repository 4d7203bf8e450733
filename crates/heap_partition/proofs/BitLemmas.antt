-- What the bits of masks are, once one is read, set or cleared.
use Rattle.std.proofs.Common.{◌≡◌, ℕ, ◌*◌, ◌/◌, ◌%◌, ◌^◌, ◌<◌, ◌≢◌, Bool, true, false, eqb, List, length, replicate, get_or, set, refl, sym, ◌∙◌, ap, inl, inr, arith, ext_get_or, length-set, get_or-set_same, get_or-set_other, eq-eqb, ne_eqb, w64, bit_and, bit_or}
use Rattle.std.proofs.lemmas.List.FromFn.{length-map-range_with_len, get_or-map-range_with_len}
use Rattle.std.proofs.lemmas.Bool.{cases_eq}
use Rattle.std.proofs.lemmas.Nat.Bits.{shr_and_one, bit_at_set_same, bit_at_set_other, bit_at_clear_same, bit_at_clear_other}
use Rattle.std.specs.Int.{bit_at, bit_not}
use Rattle.heap_partition.specs.Bits.{bit_of, bits_of}

-- a mask has 64 bits
bits_length : (masks : List ℕ) → length (bits_of masks) ≡ 64 * length masks
unfolding bits_of
bits_length masks = length-map-range_with_len (bit_of masks) 0 (64 * length masks)

-- the mask of a bit is there
pub mask_within : (masks : List ℕ) (n : ℕ) → n < length (bits_of masks) → n / 64 < length masks
mask_within masks n h = omega (arith, bits_length masks, h)

-- a bit of the list is that of its mask
bit : (masks : List ℕ) (n : ℕ) → n < length (bits_of masks) → get_or (bits_of masks) n false ≡ bit_of masks n
unfolding bits_of
bit masks n h = get_or-map-range_with_len (bit_of masks) 0 (64 * length masks) n n false (rw length-map-range_with_len at h) (omega arith)

-- what the test of a bit by shift and mask reads
pub bit_read : (masks : List ℕ) (n : ℕ) → n < length (bits_of masks) → eqb (bit_and (get_or masks (n / 64) 0 / 2 ^ (n % 64)) 1) 1 ≡ get_or (bits_of masks) n false
bit_read masks n h = ap (λ x. eqb x 1) (shr_and_one (get_or masks (n / 64) 0) (n % 64)) ∙ sym (bit masks n h)

-- a mask that differs in one bit alone
bit_written : (masks : List ℕ) (n mask : ℕ) (b : Bool) → n < length (bits_of masks) → eqb (bit_at mask (n % 64)) 1 ≡ b
    → ((i : ℕ) → i < 64 → i ≢ n % 64 → bit_at mask i ≡ bit_at (get_or masks (n / 64) 0) i)
    → bits_of (set masks (n / 64) mask) ≡ set (bits_of masks) n b
bit_written masks n mask b within here others =
    let new : List ℕ = set masks (n / 64) mask in
    let len : length (bits_of new) ≡ length (bits_of masks) = bits_length new ∙ ap (λ k. 64 * k) (length-set masks (n / 64) mask) ∙ sym (bits_length masks) in
    let there : n / 64 < length masks = mask_within masks n within in
    ext_get_or false _ _ (len ∙ sym (length-set (bits_of masks) n b))
    (λ k h.
    bit new k h
    ∙ (elim (cases_eq k n) as (λ _. bit_of new k ≡ get_or (set (bits_of masks) n b) k false) [
      | inl same ↦
          rw same
          (ap (λ x. eqb (bit_at x (n % 64)) 1) (get_or-set_same masks (n / 64) mask 0 there) ∙ here ∙ sym (get_or-set_same (bits_of masks) n b false within))
      | inr other ↦
          (elim (cases_eq (k / 64) (n / 64)) as (λ _. bit_of new k ≡ bit_of masks k) [
            | inl one ↦
                ap (λ i. eqb (bit_at (get_or new i 0) (k % 64)) 1) one
                ∙ ap (λ x. eqb (bit_at x (k % 64)) 1) (get_or-set_same masks (n / 64) mask 0 there)
                ∙ ap (λ x. eqb x 1) (others (k % 64) (omega arith) (omega (arith, other, one)))
                ∙ ap (λ i. eqb (bit_at (get_or masks i 0) (k % 64)) 1) (sym one)
            | inr apart ↦ ap (λ x. eqb (bit_at x (k % 64)) 1) (get_or-set_other masks (n / 64) (k / 64) mask 0 apart)
          ])
          ∙ sym (bit masks k (omega (arith, h, len)))
          ∙ sym (get_or-set_other (bits_of masks) n k b false other)
    ]))

-- a bit's number in its mask
low : (n : ℕ) → n % 64 < 64
low n = omega arith

-- `mask | 1 << k` sets one bit
pub bit_set : (masks : List ℕ) (n : ℕ) → n < length (bits_of masks)
    → bits_of (set masks (n / 64) (bit_or (get_or masks (n / 64) 0) (1 * 2 ^ (n % 64) % 2 ^ 64))) ≡ set (bits_of masks) n true
bit_set masks n within =
    bit_written masks n _ true within (eq-eqb _ 1 (bit_at_set_same w64 (get_or masks (n / 64) 0) (n % 64) (low n)))
    (λ i h other. bit_at_set_other w64 (get_or masks (n / 64) 0) (n % 64) (low n) i other)

-- `mask & !(1 << k)` clears one bit
pub bit_cleared : (masks : List ℕ) (n : ℕ) → n < length (bits_of masks)
    → bits_of (set masks (n / 64) (bit_and (get_or masks (n / 64) 0) (bit_not w64 (1 * 2 ^ (n % 64) % 2 ^ 64)))) ≡ set (bits_of masks) n false
bit_cleared masks n within =
    let gone = bit_at_clear_same w64 (get_or masks (n / 64) 0) (n % 64) (low n) in
    bit_written masks n _ false within (ne_eqb _ 1 (omega (arith, gone)))
    (λ i h other. bit_at_clear_other w64 (get_or masks (n / 64) 0) (n % 64) (low n) i h other)

-- masks of zeros have no bit
pub no_bit : bits_of (replicate 16 0) ≡ replicate 1024 false
unfolding bits_of
no_bit = refl
