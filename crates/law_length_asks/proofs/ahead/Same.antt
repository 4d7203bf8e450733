-- What a thread has ahead of it is the same where the pointers on its way are.
use Rattle.std.proofs.Common.{◌≡◌, ℕ, zero, suc, ◌≤◌, List, [], ◌∷◌, ◌++◌, Option, Some, None, refl, sym, ap, ◌∙◌, arith}
use Rattle.std.specs.Prelude.{slice_get, reverse, map}
use Rattle.std.proofs.lemmas.List.{map-append, reverse-append}
use Rattle.law_walks_own.specs.Below.fr_base.declared.place.Lval.{Lval}
use Rattle.law_walks_own.specs.Below.heap_partition.declared.value.Owned.TheVariants as owned
use Rattle.law_walks_own.specs.Below.thread_state.declared.value.Value.{Value}
use Rattle.law_walks_own.specs.Below.thread_state.declared.value.Value.TheVariants as value
use Rattle.law_walks_own.specs.Below.fr_base.declared.settings.Options.{Options}
use Rattle.law_walks_own.specs.Below.server_model.Servers.{Cluster}
use Rattle.law_walks_own.specs.Below.coherent_memory.Follow.{Standing, Ground, hop_at, hops_from, hops}
use Rattle.law_walks_own.specs.Below.coherent_memory.Paths.{Path, no_path, reads, shares, lends, writes, ends, path_of, Awaited, to_read, to_write, to_clean, all_to, borrow_to, awaited}
use Rattle.law_walks_own.specs.Below.coherent_memory.Sight.{sight}
use Rattle.law_walks_own.specs.Below.coherent_memory.Walking.{path, words_kept}
use Rattle.law_walks_own.specs.Below.law_words_paths.words.Unmoved.{pointing}
use Rattle.law_walks_own.proofs.Below.law_walks_others.pointers.Sentences.{SameHops, SameOn}
use Rattle.law_length_asks.specs.ahead.Ahead.{ahead_from, ahead_on, ahead}

-- WHAT SEES NO PIN

-- a function of a value that sees no more of it than where it leads, under which word
abbrev Pointed : {A : Type 0} → (Option Value → A) → Type 0
Pointed f = (v : Option Value) → f (pointing v) ≡ f v

read_pointed : (colours : ℕ) → Pointed (to_read colours)
read_pointed colours None = refl
read_pointed colours (Some (value.Own (owned.Box p))) = refl
read_pointed colours (Some (value.Own v)) = refl
read_pointed colours (Some v) = refl

write_pointed : Pointed to_write
write_pointed None = refl
write_pointed (Some (value.Own (owned.Box p))) = refl
write_pointed (Some (value.Own v)) = refl
write_pointed (Some v) = refl

clean_pointed : (colours : ℕ) → Pointed (to_clean colours)
clean_pointed colours None = refl
clean_pointed colours (Some (value.Own (owned.Box p))) = refl
clean_pointed colours (Some (value.Own v)) = refl
clean_pointed colours (Some v) = refl

-- the same of lists of them
reversed : (vs : List (Option Value)) → map pointing (reverse vs) ≡ reverse (map pointing vs)
reversed [] = refl
reversed (v ∷ vs) = ap (map pointing) (reverse-append (v ∷ []) vs) ∙ map-append pointing (reverse vs) (v ∷ []) ∙ ap (λ l. l ++ pointing v ∷ []) (reversed vs) ∙ sym (reverse-append (pointing v ∷ []) (map pointing vs))

all_seen : (f : Option Value → List Awaited) → Pointed f → (vs : List (Option Value)) → all_to f (map pointing vs) ≡ all_to f vs
all_seen f p [] = refl
all_seen f p (v ∷ vs) = ap (λ l. l ++ all_to f (map pointing vs)) (p v) ∙ ap (λ l. f v ++ l) (all_seen f p vs)

borrow_seen : (colours : ℕ) (f : Option Value → List Awaited) → Pointed f → (vs : List (Option Value)) → borrow_to colours f (map pointing vs) ≡ borrow_to colours f vs
borrow_seen colours f p [] = refl
borrow_seen colours f p (v ∷ []) = p v
borrow_seen colours f p (v ∷ w ∷ vs) = ap (λ l. l ++ borrow_to colours f (map pointing (w ∷ vs))) (read_pointed colours v) ∙ ap (λ l. to_read colours v ++ l) (borrow_seen colours f p (w ∷ vs))

module _ (k c : Cluster) (x : Standing) (code : c.code ≡ k.code) (options : c.options ≡ k.options) (same : SameOn k c x.thread.number (path (sight k) x)) where
  abbrev G : Ground
  G = (sight k).ground

  abbrev G2 : Ground
  G2 = (sight c).ground

  abbrev n : ℕ
  n = x.thread.number

  abbrev P : Path
  P = path (sight k) x

  path_same : path (sight c) x ≡ P
  path_same = ap (λ cs. path_of (slice_get cs x.thread.pc) x.thread) code

  hops_same : (w : Lval) → SameHops k c n w → (m : ℕ) → m ≤ w.depth → map pointing (hops G2 n w m) ≡ map pointing (hops G n w m)
  hops_same w h m le = reversed (hops_from G2 n w m) ∙ ap reverse (by m le) ∙ sym (reversed (hops_from G n w m))
    where
      by : (m : ℕ) → m ≤ w.depth → map pointing (hops_from G2 n w m) ≡ map pointing (hops_from G n w m)
      by zero le = refl
      by (suc m) le = ap (λ v. v ∷ map pointing (hops_from G2 n w m)) (h m (omega (arith, le))) ∙ ap (λ vs. pointing (hop_at G n w m) ∷ vs) (by m (omega (arith, le)))

  all_same : (f : Option Value → List Awaited) → Pointed f → (w : Lval) → SameHops k c n w → all_to f (hops G2 n w w.depth) ≡ all_to f (hops G n w w.depth)
  all_same f p w h = sym (all_seen f p (hops G2 n w w.depth)) ∙ ap (all_to f) (hops_same w h w.depth (omega arith)) ∙ all_seen f p (hops G n w w.depth)

  borrow_same : (colours : ℕ) (f : Option Value → List Awaited) → Pointed f → (w : Lval) → SameHops k c n w → borrow_to colours f (hops G2 n w w.depth) ≡ borrow_to colours f (hops G n w w.depth)
  borrow_same colours f p w h = sym (borrow_seen colours f p (hops G2 n w w.depth)) ∙ ap (borrow_to colours f) (hops_same w h w.depth (omega arith)) ∙ borrow_seen colours f p (hops G n w w.depth)

  awaited_same : (colours : ℕ) (p : Path) → SameOn k c n p → awaited colours G2 n p ≡ awaited colours G n p
  awaited_same colours no_path h = refl
  awaited_same colours (reads w) h = all_same (to_read colours) (read_pointed colours) w h
  awaited_same colours (shares w) h = borrow_same colours (to_clean colours) (clean_pointed colours) w h
  awaited_same colours (lends w) h = borrow_same colours to_write write_pointed w h
  awaited_same colours (writes w) h = all_same to_write write_pointed w h
  awaited_same colours (ends r) h = ap (λ vs. to_write (Some (value.Mut r)) ++ vs) (all_same to_write write_pointed r.holder h)

  colours_same : (sight c).options.colours ≡ (sight k).options.colours
  colours_same = ap (λ (o : Options). o.colours) options

  from_same : (p : Path) → SameOn k c n p
      → ahead_from (words_kept x.thread) x.server (awaited (sight c).options.colours G2 n p) ≡ ahead_from (words_kept x.thread) x.server (awaited (sight k).options.colours G n p)
  from_same p h = ap (λ o. ahead_from (words_kept x.thread) x.server (awaited o G2 n p)) colours_same ∙ ap (ahead_from (words_kept x.thread) x.server) (awaited_same (sight k).options.colours p h)

  on_same : (p : Path) → SameOn k c n p → ahead_on (sight c) x p ≡ ahead_on (sight k) x p
  on_same no_path h = refl
  on_same (writes w) h = refl
  on_same (ends r) h = refl
  on_same (reads w) h = from_same (reads w) h
  on_same (shares w) h = from_same (shares w) h
  on_same (lends w) h = from_same (lends w) h

  -- as many are ahead
  pub ahead_same : ahead (sight c) x ≡ ahead (sight k) x
  ahead_same = ap (ahead_on (sight c) x) path_same ∙ on_same P same
