-- What a cache trades.
use Rattle.std.proofs.Common.{◌≡◌, ℕ, ◌+◌, ◌==◌, Bool, true, false, if◌then◌else◌, List, [], ◌∷◌, Option, Some, None, refl, sym, ap, subst, ◌∙◌, arith}
use Rattle.coherent_memory.proofs.Below.fr_typing.PlaceLemmas.{eq_cases}
use Rattle.coherent_memory.specs.Below.heap_partition.declared.value.Cell.{Cell}
use Rattle.coherent_memory.specs.Below.read_cache.Cache.{Copy, copy_of, users, fill, with_users, without_copy}
use Rattle.coherent_memory.specs.Names.{tot}
use Rattle.coherent_memory.specs.Things.{Thing, copied, things_at, copy_things}
use Rattle.law_counts_sums.proofs.Trades.{Trade, tot-append, trade_goes, trade_comes, tot-front}

-- the things of copies
abbrev pub all_copied : ℕ → List Copy → List Thing
all_copied s cs = things_at (copy_things s) 0 cs

front : (f : Thing → ℕ) (s : ℕ) (c : Copy) (cs : List Copy) → tot f (all_copied s (c ∷ cs)) ≡ f (copied s c) + tot f (all_copied s cs)
front f s c cs = omega (arith, tot-front (λ x. copied s x ∷ []) f 0 c cs)

pub copy_word : (cs : List Copy) (w : ℕ) (c : Copy) → copy_of cs w ≡ Some c → c.word ≡ w
copy_word [] w c h = cc
copy_word (x ∷ cs) w c h =
    eq_cases (λ b. (if b then Some x else copy_of cs w) ≡ Some c → c.word ≡ w) x.word w
    (λ e g. let same : x ≡ c = cc in subst (λ (y : Copy). y.word ≡ w) same e)
    (λ ne g. copy_word cs w c g) h

pub copy_users : (cs : List Copy) (w : ℕ) (c : Copy) → copy_of cs w ≡ Some c → users cs w ≡ c.users
copy_users [] w c h = cc
copy_users (x ∷ cs) w c h = by (x.word == w) refl (copy_users cs w c)
  where
    by : (b : Bool) → (x.word == w) ≡ b → (copy_of cs w ≡ Some c → users cs w ≡ c.users) → users (x ∷ cs) w ≡ c.users
    by true e go =
        let same : x ≡ c = (let g = rw e at h in cc) in
        rw e (ap (λ (y : Copy). y.users) same)
    by false e go = rw e (go (rw e at h))

-- a copy goes
tot-gone : (f : Thing → ℕ) (s : ℕ) (cs : List Copy) (w : ℕ) (c : Copy) → copy_of cs w ≡ Some c → tot f (all_copied s cs) ≡ f (copied s c) + tot f (all_copied s (without_copy cs w))
tot-gone f s [] w c h = cc
tot-gone f s (x ∷ cs) w c h =
    eq_cases (λ b. (if b then Some x else copy_of cs w) ≡ Some c → tot f (all_copied s (x ∷ cs)) ≡ f (copied s c) + tot f (all_copied s (if b then cs else x ∷ without_copy cs w))) x.word w
    (λ e g. let same : x ≡ c = cc in subst (λ y. tot f (all_copied s (x ∷ cs)) ≡ f (copied s y) + tot f (all_copied s cs)) same (front f s x cs))
    (λ ne g. omega (arith, front f s x cs, front f s x (without_copy cs w), tot-gone f s cs w c g)) h

pub copy_goes : (s : ℕ) (cs : List Copy) (w : ℕ) (c : Copy) → copy_of cs w ≡ Some c → Trade (all_copied s cs) (copied s c ∷ []) [] (all_copied s (without_copy cs w))
copy_goes s cs w c h = trade_goes _ _ (copied s c ∷ []) (λ f. tot-gone f s cs w c h)

-- a copy gets other users
tot-users : (f : Thing → ℕ) (s : ℕ) (cs : List Copy) (w n : ℕ) (c : Copy) → copy_of cs w ≡ Some c → tot f (all_copied s (with_users cs w n)) ≡ f (copied s (record c { users = n })) + tot f (all_copied s (without_copy cs w))
tot-users f s [] w n c h = cc
tot-users f s (x ∷ cs) w n c h =
    eq_cases (λ b. (if b then Some x else copy_of cs w) ≡ Some c → tot f (all_copied s (if b then record x { users = n } ∷ cs else x ∷ with_users cs w n)) ≡ f (copied s (record c { users = n })) + tot f (all_copied s (if b then cs else x ∷ without_copy cs w))) x.word w
    (λ e g. let same : x ≡ c = cc in subst (λ (y : Copy). tot f (all_copied s (record x { users = n } ∷ cs)) ≡ f (copied s (record y { users = n })) + tot f (all_copied s cs)) same (front f s (record x { users = n }) cs))
    (λ ne g. omega (arith, front f s x (with_users cs w n), front f s x (without_copy cs w), tot-users f s cs w n c g)) h

pub copy_changes : (s : ℕ) (cs : List Copy) (w n : ℕ) (c : Copy) → copy_of cs w ≡ Some c → Trade (all_copied s cs) (copied s c ∷ []) (copied s (record c { users = n }) ∷ []) (all_copied s (with_users cs w n))
copy_changes s cs w n c h = record { rest = all_copied s (without_copy cs w); before = λ f. omega (arith, tot-gone f s cs w c h); after = λ f. omega (arith, tot-users f s cs w n c h) }

-- a copy comes, where none is there under its word
abbrev pub new_copy : ℕ → ℕ → Cell → Option Copy → List Thing
new_copy s w c None = copied s (record { word = w; cell = c; users = 0 }) ∷ []
new_copy s w c (Some d) = []

tot-filled : (f : Thing → ℕ) (s : ℕ) (cs : List Copy) (w : ℕ) (c : Cell) → tot f (all_copied s (fill cs w c)) ≡ tot f (new_copy s w c (copy_of cs w)) + tot f (all_copied s cs)
tot-filled f s [] w c = omega arith
tot-filled f s (x ∷ cs) w c =
    eq_cases (λ b. tot f (all_copied s (if b then x ∷ cs else x ∷ fill cs w c)) ≡ tot f (new_copy s w c (if b then Some x else copy_of cs w)) + tot f (all_copied s (x ∷ cs))) x.word w
    (λ e. omega arith)
    (λ ne. omega (arith, front f s x (fill cs w c), front f s x cs, tot-filled f s cs w c))

pub copy_comes : (s : ℕ) (cs : List Copy) (w : ℕ) (c : Cell) → Trade (all_copied s cs) [] (new_copy s w c (copy_of cs w)) (all_copied s (fill cs w c))
copy_comes s cs w c = trade_comes _ _ (new_copy s w c (copy_of cs w)) (λ f. tot-append f (new_copy s w c (copy_of cs w)) (all_copied s cs) ∙ sym (tot-filled f s cs w c))
