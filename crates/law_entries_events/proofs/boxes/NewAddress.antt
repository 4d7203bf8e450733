-- The address at which an object comes to lie: those of its words below the object's colour were issued, the object's word is one more, and its colour is one of the run.
use Rattle.std.proofs.Common.{◌≡◌, ℕ, ◌+◌, ◌<◌, ◌≤◌, ◌^◌, ◌==◌, ◌&&◌, nat_lt, Bool, true, false, List, [], ◌∷◌, length, Some, refl, sym, ap, ap₂, subst, ◌∙◌, arith}
use Rattle.std.specs.Prelude.{nat_le}
use Rattle.std.proofs.lemmas.Bool.{lt-ltb}
use Rattle.std.proofs.lemmas.Bool.Decides.{nat_tests}
use Rattle.law_entries_writes.specs.Below.law_entries_reads.Below.law_words_borrows.Below.fr_base.declared.name.ObjNo.{ObjNo}
use Rattle.law_entries_writes.specs.Below.law_entries_reads.Below.law_words_borrows.Below.global_addr.Words.{word_of, colour_of, server_of, address_of}
use Rattle.law_entries_writes.specs.Below.law_entries_reads.Below.law_words_borrows.Below.law_counts_sums.Below.colour_retire.Colours.{picked}
use Rattle.law_entries_writes.specs.Below.law_entries_reads.Below.law_words_borrows.Below.owner_box.View.{PartitionState}
use Rattle.law_entries_writes.specs.Below.law_entries_reads.Below.law_words_borrows.Below.owner_box.Partition.{next_place, new_word}
use Rattle.law_entries_writes.specs.Below.law_entries_reads.Below.law_words_borrows.Below.server_model.Servers.{Server, Cluster, server_at}
use Rattle.law_entries_writes.specs.Below.law_entries_reads.Below.law_words_borrows.Below.server_model.NewWords.{can_grow}
use Rattle.law_entries_writes.specs.Below.law_entries_reads.Below.law_words_borrows.Below.coherent_memory.Names.{tot, one, other}
use Rattle.law_entries_writes.specs.Below.law_entries_reads.Below.law_words_borrows.Below.coherent_memory.Things.{Thing, vacant, things_at, cell_things, free_things, things_of}
use Rattle.law_entries_writes.specs.Below.law_entries_reads.Below.law_words_borrows.Below.coherent_memory.Sight.{is_spot, sight, issued}
use Rattle.law_entries_writes.specs.Below.law_entries_reads.Below.law_words_borrows.Below.coherent_memory.Naming.{options_out}
use Rattle.law_entries_writes.specs.Below.law_entries_reads.Below.law_words_borrows.Below.coherent_memory.Placing.{words, next_colours}
use Rattle.law_entries_writes.specs.Below.law_entries_reads.Below.law_words_borrows.Below.coherent_memory.Coherent.{IsSound}
use Rattle.law_entries_writes.specs.Below.law_entries_reads.Below.law_words_borrows.Below.law_counts_sums.Laws.{FewEvents}
use Rattle.law_entries_writes.proofs.Below.law_entries_variables.Below.coherent_memory.Sums.{server_parts}
use Rattle.law_entries_writes.proofs.Below.law_entries_reads.Below.law_words_borrows.Below.law_counts_sums.Trades.{tot-append}
use Rattle.law_entries_writes.proofs.Below.law_entries_reads.Below.law_words_borrows.Below.law_counts_sums.Askers.{other_none}
use Rattle.law_entries_writes.proofs.Below.law_entries_reads.Below.law_words_borrows.Below.law_counts_sums.Events.{tot-server}
use Rattle.law_entries_writes.proofs.Below.law_entries_reads.Below.law_words_borrows.Below.law_counts_sums.Objects.{taken_place}
use Rattle.law_entries_writes.proofs.Below.law_entries_variables.Below.law_heap_still.events.Tests.{numbers}
use Rattle.law_entries_writes.proofs.Below.law_entries_reads.Below.law_words_borrows.Below.law_results_reads.Pointing.{its_partition}
use Rattle.law_entries_writes.proofs.Below.law_entries_reads.Below.law_words_borrows.Below.law_words_values.made.Partition.{word_leads}
use Rattle.law_entries_writes.proofs.Below.law_entries_reads.Below.law_words_borrows.Below.law_words_values.made.Servers.{NextWord, next_word_is}
use Rattle.law_entries_writes.proofs.Below.law_entries_variables.deliveries.Live.{issued_by}

-- WORDS AT AN ADDRESS

-- a word is its parts
parts_are : (v : ℕ) → v ≡ word_of (colour_of v) (server_of v) (address_of v)
parts_are v = omega arith

-- up to a colour are those below it, and the word with that colour
pub up_to_word : (n a w v : ℕ) → server_of w ≡ n → address_of w ≡ a → one (is_spot n a v && nat_le (colour_of v) (colour_of w)) ≡ one (is_spot n a v && nat_lt (colour_of v) (colour_of w)) + one (w == v)
up_to_word n a w v server address = by (server_of v == n) (address_of v == a) (nat_le (colour_of v) (colour_of w)) (nat_lt (colour_of v) (colour_of w)) (w == v) refl refl refl refl refl
  where
    same_word : server_of v ≡ n → address_of v ≡ a → colour_of v ≡ colour_of w → w ≡ v
    same_word e g h =
        parts_are w ∙ ap (λ i. word_of i (server_of w) (address_of w)) (sym h) ∙ ap₂ (λ i j. word_of (colour_of v) i j) (server ∙ sym e) (address ∙ sym g) ∙ sym (parts_are v)

    other_server : (server_of v == n) ≡ false → (w == v) ≡ true → ⊥
    other_server p q =
        let s : (server_of v == n) ≡ true = ap (λ z. server_of z == n) (sym (numbers.tells w v q)) ∙ ap (λ z. z == n) server ∙ numbers.itself n in
        cc (sym p ∙ s)

    other_address : (address_of v == a) ≡ false → (w == v) ≡ true → ⊥
    other_address p q =
        let s : (address_of v == a) ≡ true = ap (λ z. address_of z == a) (sym (numbers.tells w v q)) ∙ ap (λ z. z == a) address ∙ numbers.itself a in
        cc (sym p ∙ s)

    by : (p q l m e : Bool) → (server_of v == n) ≡ p → (address_of v == a) ≡ q → nat_le (colour_of v) (colour_of w) ≡ l → nat_lt (colour_of v) (colour_of w) ≡ m → (w == v) ≡ e → one ((p && q) && l) ≡ one ((p && q) && m) + one e
    by false q l m false x y z u r = refl
    by false q l m true x y z u r = absurd (other_server x r)
    by true false l m false x y z u r = refl
    by true false l m true x y z u r = absurd (other_address y r)
    by true true true true false x y z u r = refl
    by true true true true true x y z u r = absurd (let s = ap colour_of (numbers.tells w v r) in grind (arith, nat_tests, s, u))
    by true true true false true x y z u r = refl
    by true true true false false x y z u r =
        let c : colour_of v ≡ colour_of w = grind (arith, nat_tests, z, u) in
        let s : (w == v) ≡ true = subst (λ i. (w == i) ≡ true) (same_word (numbers.tells (server_of v) n x) (numbers.tells (address_of v) a y) c) (numbers.itself w) in
        absurd (cc (sym r ∙ s))
    by true true false false false x y z u r = refl
    by true true false true e x y z u r = absurd (grind (arith, nat_tests, z, u))
    by true true false false true x y z u r = absurd (let s = ap colour_of (numbers.tells w v r) in grind (arith, nat_tests, s, z))

-- what sees no free address sees nothing of the one that is taken
pub taken_none : (n : ℕ) (fl : List (ℕ × ℕ)) (f : Thing → ℕ) → ((r b m : ℕ) → f (vacant r b m) ≡ 0) → tot f (taken_place n fl) ≡ 0
taken_none n [] f e = refl
taken_none n (pair ∷ rest) f e = omega (arith, e n pair.0 pair.1)

-- before, the words at the next address are those below its colour
pub taken_issued : (n : ℕ) (p : PartitionState) (h : ObjNo → ℕ) (colours v : ℕ) → tot (issued_by h colours v) (taken_place n p.free) ≡ one (is_spot n (next_place p).0 v && nat_lt (colour_of v) (next_place p).1)
taken_issued n p h colours v = by p.free
  where
    none : (b j : Bool) → nat_lt (colour_of v) 0 ≡ j → one (b && j) ≡ 0
    none true true q = absurd (grind (arith, nat_tests, q))
    none true false q = refl
    none false j q = refl

    by : (fl : List (ℕ × ℕ)) → tot (issued_by h colours v) (taken_place n fl) ≡ one (is_spot n (picked fl (length p.cells)).0 v && nat_lt (colour_of v) (picked fl (length p.cells)).1)
    by [] = sym (none (is_spot n (length p.cells) v) (nat_lt (colour_of v) 0) refl)
    by (pair ∷ rest) = omega arith

-- THE NEXT WORD OF A SERVER

module _ (k : Cluster) (sound : IsSound k) (few : FewEvents k) (s : Server) (here : server_at k.servers s.rest.number ≡ Some s) where
  abbrev n : ℕ
  n = s.rest.number

  abbrev p : PartitionState
  p = s.rest.partition

  -- a run has colours
  some_colour : 1 ≤ k.options.colours
  some_colour = let none : options_out k.options ≡ 0 = sound.parts.options_in_range in at_least (nat_le 1 k.options.colours) (nat_le k.options.colours 65536) refl (omega (arith, none))
    where
      at_least : (b d : Bool) → nat_le 1 k.options.colours ≡ b → other (b && d) ≡ 0 → 1 ≤ k.options.colours
      at_least true d e z = grind (arith, nat_tests, e)
      at_least false d e z = absurd (cc z)

  -- a free address goes on from a colour of the run
  place_low : nat_lt (next_place p).1 k.options.colours ≡ true
  place_low = by p.free refl
    where
      f : Thing → ℕ
      f = next_colours k.options.colours

      none : tot f (things_at (free_things n) 0 p.free) ≡ 0
      none =
          let all : tot (words (λ v. other (nat_lt (colour_of v) k.options.colours))) (things_of k) + tot f (things_of k) ≡ 0 = sound.words.below_limit in
          omega (arith, all, (tot-server f k.servers n s s here).0, server_parts f s, tot-append f (things_at (cell_things n p.free) 0 p.cells) (things_at (free_things n) 0 p.free))

      by : (fl : List (ℕ × ℕ)) → p.free ≡ fl → nat_lt (picked fl (length p.cells)).1 k.options.colours ≡ true
      by [] e = lt-ltb 0 k.options.colours (let m = some_colour in omega (arith, m))
      by (pair ∷ rest) e =
          let first : tot f (things_at (free_things n) 0 (pair ∷ rest)) ≡ 0 = subst (λ l. tot f (things_at (free_things n) 0 l) ≡ 0) e none in
          other_none (nat_lt pair.1 k.options.colours) (omega (arith, first))

  -- its word leads to the next address, with the colour from which that goes on, and wasn't issued
  pub record NewWord : Type 0 where
    pub fresh : issued (sight k) (new_word p) ≡ false
    pub server : server_of (new_word p) ≡ n
    pub address : address_of (new_word p) ≡ (next_place p).0
    pub colour : colour_of (new_word p) ≡ (next_place p).1
    pub low : nat_lt (colour_of (new_word p)) k.options.colours ≡ true

  pub new_word_is : can_grow p ≡ true → NewWord
  new_word_is grows = record { fresh = next.fresh; server = next.leads.server; address = next.leads.address; colour = its_colour; low = ap (λ c. nat_lt c k.options.colours) its_colour ∙ place_low }
    where
      next : NextWord k s
      next = next_word_is k sound s here few grows

      small : server_of (new_word p) < 2 ^ 8
      small = omega arith

      within : address_of (new_word p) < 2 ^ 40
      within = omega arith

      its_colour : colour_of (new_word p) ≡ (next_place p).1
      its_colour = (word_leads (next_place p).1 p.server (next_place p).0 (omega (arith, small, next.leads.server, (its_partition k sound n s here).0)) (omega (arith, within, next.leads.address))).2
