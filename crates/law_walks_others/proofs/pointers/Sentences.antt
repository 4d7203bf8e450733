-- What is said of a thread by the pointers on its way is the same where these are the same.
use Rattle.std.proofs.Common.{◌≡◌, ℕ, zero, suc, ◌-◌, ◌≤◌, ◌<◌, ◌==◌, ◌&&◌, nat_lt, Bool, true, false, if◌then◌else◌, List, [], ◌∷◌, ◌++◌, Option, Some, None, refl, sym, ap, subst, ◌∙◌, arith}
use Rattle.std.specs.Prelude.{slice_get, reverse, map}
use Rattle.std.proofs.lemmas.List.{map-append, reverse-append}
use Rattle.std.specs.Bool.{⊤}
use Rattle.std.proofs.lemmas.Bool.Decides.{nat_tests}
use Rattle.law_words_values.specs.Below.fr_base.declared.place.Lval.{Lval}
use Rattle.law_words_values.specs.Below.fr_base.declared.instruction.Instr.{Instr}
use Rattle.law_words_values.specs.Below.fr_base.declared.instruction.Instr.TheVariants as instr
use Rattle.law_words_values.specs.Below.heap_partition.declared.value.Owned.TheVariants as owned
use Rattle.law_words_values.specs.Below.thread_state.declared.phase.Phase.{Phase}
use Rattle.law_words_values.specs.Below.thread_state.declared.phase.Phase.TheVariants as phase
use Rattle.law_words_values.specs.Below.thread_state.declared.value.Value.{Value}
use Rattle.law_words_values.specs.Below.thread_state.declared.value.Value.TheVariants as value
use Rattle.law_words_values.specs.Below.server_model.Servers.{Cluster}
use Rattle.law_words_values.specs.Below.coherent_memory.Names.{tot, one, other, if_so, some}
use Rattle.law_words_values.specs.Below.coherent_memory.Things.{things_of}
use Rattle.law_words_values.specs.Below.coherent_memory.Follow.{Standing, Ground, hop_at, hops_from, hops}
use Rattle.law_words_values.specs.Below.coherent_memory.Paths.{Path, no_path, reads, shares, lends, writes, ends, path_of, Awaited, to_read, to_write, to_clean, all_to, borrow_to, awaited, followed, first_unreadable}
use Rattle.law_words_values.specs.Below.coherent_memory.Sight.{sight}
use Rattle.law_words_values.specs.Below.coherent_memory.Walking.{instr_of, path, words_kept, loose_hop, is_pull, has_gift_there, waits_for_lent, has_followed, lost_place, first_of, next_hop, in_turn, asked_for, not_asked, out_of_turn}
use Rattle.law_words_values.specs.Below.coherent_memory.Requests.{lent_place, has_word, last_hop, taken_again, old_word}
use Rattle.law_words_values.proofs.Below.coherent_memory.Names.{and_left, and_right}
use Rattle.law_counts_waiting.specs.Below.law_words_paths.words.Unmoved.{pointing}

-- the pointers on a place are the same, but for pins
abbrev pub SameHops : Cluster → Cluster → ℕ → Lval → Type 0
SameHops k c t w = (n : ℕ) → n < w.depth → pointing (hop_at (sight c).ground t w n) ≡ pointing (hop_at (sight k).ground t w n)

-- those on a path
abbrev pub SameOn : Cluster → Cluster → ℕ → Path → Type 0
SameOn k c t no_path = ⊤
SameOn k c t (reads w) = SameHops k c t w
SameOn k c t (shares w) = SameHops k c t w
SameOn k c t (lends w) = SameHops k c t w
SameOn k c t (writes w) = SameHops k c t w
SameOn k c t (ends r) = SameHops k c t r.holder

-- WHAT SEES NO PIN

-- a function of a value that sees no more of it than where it leads, under which word
abbrev Pointed : {A : Type 0} → (Option Value → A) → Type 0
Pointed f = (v : Option Value) → f (pointing v) ≡ f v

read_pointed : (colours : ℕ) → Pointed (to_read colours)
read_pointed colours None = refl
read_pointed colours (Some (value.Own (owned.Box p))) = refl
read_pointed colours (Some (value.Own v)) = refl
read_pointed colours (Some v) = refl

write_pointed : Pointed to_write
write_pointed None = refl
write_pointed (Some (value.Own (owned.Box p))) = refl
write_pointed (Some (value.Own v)) = refl
write_pointed (Some v) = refl

clean_pointed : (colours : ℕ) → Pointed (to_clean colours)
clean_pointed colours None = refl
clean_pointed colours (Some (value.Own (owned.Box p))) = refl
clean_pointed colours (Some (value.Own v)) = refl
clean_pointed colours (Some v) = refl

loose_pointed : (r : ℕ) (kept : List ℕ) → Pointed (loose_hop r kept)
loose_pointed r kept None = refl
loose_pointed r kept (Some (value.Own (owned.Box p))) = refl
loose_pointed r kept (Some (value.Own v)) = refl
loose_pointed r kept (Some v) = refl

word_pointed : (w : ℕ) → Pointed (has_word w)
word_pointed w None = refl
word_pointed w (Some (value.Own (owned.Box p))) = refl
word_pointed w (Some (value.Own v)) = refl
word_pointed w (Some v) = refl

-- so it gives the same of values that lead alike
alike_by : {A : Type 0} (f : Option Value → A) → Pointed f → (u v : Option Value) → pointing u ≡ pointing v → f u ≡ f v
alike_by f p u v e = sym (p u) ∙ ap f e ∙ p v

-- and of lists of them
reversed : (vs : List (Option Value)) → map pointing (reverse vs) ≡ reverse (map pointing vs)
reversed [] = refl
reversed (v ∷ vs) = ap (map pointing) (reverse-append (v ∷ []) vs) ∙ map-append pointing (reverse vs) (v ∷ []) ∙ ap (λ l. l ++ pointing v ∷ []) (reversed vs) ∙ sym (reverse-append (pointing v ∷ []) (map pointing vs))

all_seen : (f : Option Value → List Awaited) → Pointed f → (vs : List (Option Value)) → all_to f (map pointing vs) ≡ all_to f vs
all_seen f p [] = refl
all_seen f p (v ∷ vs) = ap (λ l. l ++ all_to f (map pointing vs)) (p v) ∙ ap (λ l. f v ++ l) (all_seen f p vs)

borrow_seen : (colours : ℕ) (f : Option Value → List Awaited) → Pointed f → (vs : List (Option Value)) → borrow_to colours f (map pointing vs) ≡ borrow_to colours f vs
borrow_seen colours f p [] = refl
borrow_seen colours f p (v ∷ []) = p v
borrow_seen colours f p (v ∷ w ∷ vs) = ap (λ l. l ++ borrow_to colours f (map pointing (w ∷ vs))) (read_pointed colours v) ∙ ap (λ l. to_read colours v ++ l) (borrow_seen colours f p (w ∷ vs))

tot_seen : (f : Option Value → ℕ) → Pointed f → (vs : List (Option Value)) → tot f (map pointing vs) ≡ tot f vs
tot_seen f p [] = refl
tot_seen f p (v ∷ vs) = omega (arith, p v, tot_seen f p vs)

module _ (k c : Cluster) (x : Standing) (code : c.code ≡ k.code) (options : c.options ≡ k.options) (same : SameOn k c x.thread.number (path (sight k) x)) where
  abbrev G : Ground
  G = (sight k).ground

  abbrev G2 : Ground
  G2 = (sight c).ground

  abbrev n : ℕ
  n = x.thread.number

  abbrev P : Path
  P = path (sight k) x

  path_same : path (sight c) x ≡ P
  path_same = ap (λ cs. path_of (slice_get cs x.thread.pc) x.thread) code

  hops_same : (w : Lval) → SameHops k c n w → (m : ℕ) → m ≤ w.depth → map pointing (hops G2 n w m) ≡ map pointing (hops G n w m)
  hops_same w h m le = reversed (hops_from G2 n w m) ∙ ap reverse (by m le) ∙ sym (reversed (hops_from G n w m))
    where
      by : (m : ℕ) → m ≤ w.depth → map pointing (hops_from G2 n w m) ≡ map pointing (hops_from G n w m)
      by zero le = refl
      by (suc m) le = ap (λ v. v ∷ map pointing (hops_from G2 n w m)) (h m (omega (arith, le))) ∙ ap (λ vs. pointing (hop_at G n w m) ∷ vs) (by m (omega (arith, le)))

  all_same : (f : Option Value → List Awaited) → Pointed f → (w : Lval) → SameHops k c n w → all_to f (hops G2 n w w.depth) ≡ all_to f (hops G n w w.depth)
  all_same f p w h = sym (all_seen f p (hops G2 n w w.depth)) ∙ ap (all_to f) (hops_same w h w.depth (omega arith)) ∙ all_seen f p (hops G n w w.depth)

  borrow_same : (colours : ℕ) (f : Option Value → List Awaited) → Pointed f → (w : Lval) → SameHops k c n w → borrow_to colours f (hops G2 n w w.depth) ≡ borrow_to colours f (hops G n w w.depth)
  borrow_same colours f p w h = sym (borrow_seen colours f p (hops G2 n w w.depth)) ∙ ap (borrow_to colours f) (hops_same w h w.depth (omega arith)) ∙ borrow_seen colours f p (hops G n w w.depth)

  awaited_same : (colours : ℕ) (p : Path) → SameOn k c n p → awaited colours G2 n p ≡ awaited colours G n p
  awaited_same colours no_path h = refl
  awaited_same colours (reads w) h = all_same (to_read colours) (read_pointed colours) w h
  awaited_same colours (shares w) h = borrow_same colours (to_clean colours) (clean_pointed colours) w h
  awaited_same colours (lends w) h = borrow_same colours to_write write_pointed w h
  awaited_same colours (writes w) h = all_same to_write write_pointed w h
  awaited_same colours (ends r) h = ap (λ vs. to_write (Some (value.Mut r)) ++ vs) (all_same to_write write_pointed r.holder h)

  followed_same : (p : Path) → SameOn k c n p → map pointing (followed G2 n p) ≡ map pointing (followed G n p)
  followed_same (reads w) h = hops_same w h w.depth (omega arith)
  followed_same (lends w) h = hops_same w h (w.depth - 1) (omega arith)
  followed_same no_path h = refl
  followed_same (shares w) h = refl
  followed_same (writes w) h = refl
  followed_same (ends r) h = refl

  -- WHAT IT HAS FOLLOWED

  lent_same : (p : Path) (w : ℕ) → SameOn k c n p → waits_for_lent (sight c) x p w ≡ waits_for_lent (sight k) x p w
  lent_same (lends v) w h = ap (λ o. is_pull (awaited o G2 n (lends v)) w) (ap (λ (o : Rattle.law_words_values.specs.Below.fr_base.declared.settings.Options.Options). o.colours) options) ∙ ap (λ l. is_pull l w) (awaited_same k.options.colours (lends v) h)
  lent_same no_path w h = refl
  lent_same (reads v) w h = refl
  lent_same (shares v) w h = refl
  lent_same (writes v) w h = refl
  lent_same (ends r) w h = refl

  gift_same : has_gift_there x.thread.gift (instr_of (sight c) x) ≡ has_gift_there x.thread.gift (instr_of (sight k) x)
  gift_same = ap (λ cs. has_gift_there x.thread.gift (slice_get cs x.thread.pc)) code

  has_same : (q : Phase) → has_followed (sight c) x q ≡ has_followed (sight k) x q
  has_same (phase.WaitLock m) = refl
  has_same (phase.WaitDup m) = refl
  has_same (phase.Taken w) = refl
  has_same (phase.WaitCell w) = ap (λ p. waits_for_lent (sight c) x p w) path_same ∙ lent_same P w same
  has_same phase.Ready = gift_same
  has_same phase.Got = gift_same
  has_same (phase.WaitJoin u) = gift_same
  has_same (phase.WaitPar a b) = gift_same
  has_same (phase.GotPar a b) = gift_same
  has_same phase.Over = gift_same

  pub lost_same : lost_place (sight c) x ≡ lost_place (sight k) x
  lost_same =
      let loose : Option Value → ℕ = loose_hop x.server (words_kept x.thread) in
      ap (λ b. if_so b (tot loose (followed G2 n (path (sight c) x)))) (has_same x.thread.phase)
      ∙ ap (λ p. if_so (has_followed (sight k) x x.thread.phase) (tot loose (followed G2 n p))) path_same
      ∙ ap (λ m. if_so (has_followed (sight k) x x.thread.phase) m)
      (sym (tot_seen loose (loose_pointed x.server (words_kept x.thread)) (followed G2 n P)) ∙ ap (tot loose) (followed_same P same) ∙ tot_seen loose (loose_pointed x.server (words_kept x.thread)) (followed G n P))

  -- WHAT IT WAITS FOR

  next_same : (w : Lval) → SameHops k c n w → next_hop (sight c) x w ≡ next_hop (sight k) x w
  next_same w h = by (nat_lt x.thread.passed w.depth) refl
    where
      by : (b : Bool) → nat_lt x.thread.passed w.depth ≡ b → (if b then first_of (to_write (hop_at G2 n w x.thread.passed)) else None) ≡ (if b then first_of (to_write (hop_at G n w x.thread.passed)) else None)
      by true e = let less : x.thread.passed < w.depth = grind (arith, nat_tests, e) in ap first_of (alike_by to_write write_pointed (hop_at G2 n w x.thread.passed) (hop_at G n w x.thread.passed) (h x.thread.passed less))
      by false e = refl

  colours_same : (sight c).options.colours ≡ (sight k).options.colours
  colours_same = ap (λ (o : Rattle.law_words_values.specs.Below.fr_base.declared.settings.Options.Options). o.colours) options

  first_same : (p : Path) → SameOn k c n p
      → first_unreadable (words_kept x.thread) x.server (awaited (sight c).options.colours G2 n p) ≡ first_unreadable (words_kept x.thread) x.server (awaited (sight k).options.colours G n p)
  first_same p h =
      ap (λ o. first_unreadable (words_kept x.thread) x.server (awaited o G2 n p)) colours_same ∙ ap (first_unreadable (words_kept x.thread) x.server) (awaited_same (sight k).options.colours p h)

  turn_same : (w : ℕ) (p : Path) → SameOn k c n p → in_turn (sight c) x w p ≡ in_turn (sight k) x w p
  turn_same w no_path h = refl
  turn_same w (writes v) h = next_same v h
  turn_same w (ends r) h = by (r.word == w)
    where
      by : (b : Bool) → (if b then first_of (to_write (Some (value.Mut r))) else next_hop (sight c) x r.holder) ≡ (if b then first_of (to_write (Some (value.Mut r))) else next_hop (sight k) x r.holder)
      by true = refl
      by false = next_same r.holder h
  turn_same w (reads v) h = first_same (reads v) h
  turn_same w (shares v) h = first_same (shares v) h
  turn_same w (lends v) h = first_same (lends v) h

  -- where no message that asks went
  module _ (asked : (a : Awaited) → tot (asked_for x.thread.number a) (things_of k) ≤ tot (asked_for x.thread.number a) (things_of c)) where
    still_asked : (w : ℕ) (o : Option Awaited) → not_asked (sight k) x w o ≡ 0 → not_asked (sight c) x w o ≡ 0
    still_asked w None z = absurd (cc z)
    still_asked w (Some a) z =
        let all = none_true ((a.word == w) && some (tot (asked_for n a) (things_of k))) z in
        let first = and_left (a.word == w) (some (tot (asked_for n a) (things_of k))) all in
        let there = some_one (tot (asked_for n a) (things_of k)) (and_right (a.word == w) (some (tot (asked_for n a) (things_of k))) all) in
        ap other (both (a.word == w) (some (tot (asked_for n a) (things_of c))) first (one_some (tot (asked_for n a) (things_of c)) (omega (arith, there, asked a))))
      where
        none_true : (b : Bool) → other b ≡ 0 → b ≡ true
        none_true true z = refl
        none_true false z = absurd (cc z)

        some_one : (m : ℕ) → some m ≡ true → 1 ≤ m
        some_one zero e = absurd (cc e)
        some_one (suc m) e = omega arith

        one_some : (m : ℕ) → 1 ≤ m → some m ≡ true
        one_some zero l = absurd (omega (arith, l))
        one_some (suc m) l = refl

        both : (p q : Bool) → p ≡ true → q ≡ true → (p && q) ≡ true
        both true q a b = b
        both false q a b = absurd (cc a)

    pub turn_kept : (q : Phase) → out_of_turn (sight k) x q ≡ 0 → out_of_turn (sight c) x q ≡ 0
    turn_kept (phase.WaitCell w) z =
        subst (λ o. not_asked (sight c) x w o ≡ 0) (sym (ap (in_turn (sight c) x w) path_same ∙ turn_same w P same)) (still_asked w (in_turn (sight k) x w P) z)
    turn_kept phase.Ready z = refl
    turn_kept phase.Got z = refl
    turn_kept (phase.Taken w) z = refl
    turn_kept (phase.WaitLock m) z = refl
    turn_kept (phase.WaitDup m) z = refl
    turn_kept (phase.WaitJoin u) z = refl
    turn_kept (phase.WaitPar a b) z = refl
    turn_kept (phase.GotPar a b) z = refl
    turn_kept phase.Over z = refl

  -- WHAT IT HAS TAKEN

  last_same : (w : ℕ) (p : Lval) → SameHops k c n p → (d : ℕ) → d ≤ p.depth → last_hop (sight c) x w p d ≡ last_hop (sight k) x w p d
  last_same w p h zero le = refl
  last_same w p h (suc m) le = alike_by (has_word w) (word_pointed w) (hop_at G2 n p m) (hop_at G n p m) (h m (omega (arith, le)))

  again_same : (w : ℕ) (i : Option Instr) → instr_of (sight k) x ≡ i → taken_again (sight c) x w (lent_place i) ≡ taken_again (sight k) x w (lent_place i)
  again_same w (Some (instr.BorrowMut p)) e = ap one (last_same w p (subst (SameOn k c n) (ap (λ o. path_of o x.thread) e) same) p.depth (omega arith))
  again_same w _ e = refl

  pub old_same : (q : Phase) → old_word (sight c) x q ≡ old_word (sight k) x q
  old_same (phase.Taken w) = ap (λ cs. taken_again (sight c) x w (lent_place (slice_get cs x.thread.pc))) code ∙ again_same w (instr_of (sight k) x) refl
  old_same phase.Ready = refl
  old_same phase.Got = refl
  old_same (phase.WaitCell w) = refl
  old_same (phase.WaitLock m) = refl
  old_same (phase.WaitDup m) = refl
  old_same (phase.WaitJoin u) = refl
  old_same (phase.WaitPar a b) = refl
  old_same (phase.GotPar a b) = refl
  old_same phase.Over = refl
