use Rattle.std.proofs.Common.{◌≡◌, ℕ, ◌<◌, ◌^◌, sym, ap, ◌∙◌, arith}
use Rattle.std.proofs.lemmas.Nat.{from_le_bytes-to_le_bytes_8}
use Rattle.std.specs.Hash.{le_bytes}
use Rattle.std.specs.Int.{from_le_bytes, w64}
use Rattle.read_cache.specs.Hash.{mixed}
use Rattle.read_cache.specs.declared.hash.WordHasher.{WordHasher}
use Rattle.read_cache.proofs.hash.WordHasherHasher.write_u64.Goals as goal

abbrev hasher : ℕ → WordHasher
hasher state = record { 0 = state }

-- the bytes of a number give the number
read_back : (n : ℕ) → n < 2 ^ 64 → from_le_bytes w64 (le_bytes 8 n) ≡ n
unfolding le_bytes
read_back n l = from_le_bytes-to_le_bytes_8 n l

pub returns : goal.returns
returns c = ap (λ n. hasher n) (c.mix-self.ensures ∙ ap (λ n. mixed c.args.self.now.0 n) (sym (read_back c.args.number (omega (arith, c.ranges.number.fits)))))
