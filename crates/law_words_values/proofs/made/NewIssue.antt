-- The word of the next object wasn't issued: its address is free at that colour, or beyond all that were used.
use Rattle.std.proofs.Common.{◌≡◌, inl, inr, ℕ, ◌≤◌, ◌==◌, ◌&&◌, ◌||◌, nat_lt, Bool, true, false, List, [], ◌∷◌, Some, refl, sym, ap, ap₂, subst, ◌∙◌, arith}
use Rattle.std.specs.Prelude.{length}
use Rattle.std.proofs.lemmas.Bool.{eq-eqb}
use Rattle.std.proofs.lemmas.Bool.Decides.{nat_tests}
use Rattle.law_counts_things.specs.Below.global_addr.Words.{colour_of, server_of, address_of}
use Rattle.law_counts_things.specs.Below.colour_retire.Colours.{picked}
use Rattle.law_counts_things.specs.Below.owner_box.View.{PartitionState}
use Rattle.law_counts_things.specs.Below.server_model.Servers.{Server, Cluster, server_at}
use Rattle.law_counts_things.specs.Below.coherent_memory.Names.{Among, tot, one}
use Rattle.law_counts_things.specs.Below.coherent_memory.Things.{Thing, lies, vacant, retired, counts, servers_things, things_of, things_at, cell_things, free_things}
use Rattle.law_counts_things.specs.Below.coherent_memory.Weights.{states, below}
use Rattle.law_counts_things.specs.Below.coherent_memory.Sight.{Pointer, is_spot, colour_up_to, word_of_object, is_issued_at, is_issued, issued, sight}
use Rattle.law_counts_things.specs.Below.coherent_memory.Coherent.{IsSound}
use Rattle.law_counts_things.proofs.Below.coherent_memory.Names.{same_number, and_left, and_right}
use Rattle.law_counts_things.proofs.Below.coherent_memory.Words.{none_at}
use Rattle.law_counts_things.proofs.Below.law_words_paths.paths.InState.{only_one}
use Rattle.law_counts_things.proofs.Below.law_words_paths.paths.Origins.{among_second}
use Rattle.law_counts_things.specs.Below.law_counts_sums.Sums.{Sums, is_server}
use Rattle.law_counts_things.proofs.Below.law_counts_sums.Boxes.{tot_le}
use Rattle.law_counts_things.proofs.Below.law_counts_sums.Events.{others_of, tot-server}
use Rattle.law_counts_things.proofs.Below.law_counts_sums.Sound.{sound_has_sums}
use Rattle.law_words_values.proofs.Below.law_words_kept.reads.Lookups.{one_state}
use Rattle.law_counts_things.proofs.names.Counts.{Plain, counts_at, counts_alone}
use Rattle.law_words_values.proofs.made.Listed.{of_server, of_partition}

none_issued : (colours w : ℕ) (ps : List Pointer) (b : List Thing) → ((x : Thing) → Among x b → is_issued_at colours ps w x ≡ false) → is_issued colours ps b w ≡ false
none_issued colours w ps [] f = refl
none_issued colours w ps (x ∷ b) f = ap (λ q. q || is_issued colours ps b w) (f x (inl refl)) ∙ none_issued colours w ps b (λ y h. f y (inr h))

same_spot : (r a s d : ℕ) → s ≡ r → d ≡ a → one (s == r && d == a) ≡ 1
same_spot r a s d e f = ap₂ (λ p q. one (p && q)) (eq-eqb s r e) (eq-eqb d a f)

below_plain : (at : ℕ × ℕ) (x : Thing) → Plain x → below at x ≡ 0
below_plain at (counts r next old started made events) p = absurd p
below_plain at x p = refl

server_plain : (n : ℕ) (x : Thing) → Plain x → is_server n x ≡ 0
server_plain n (counts r next old started made events) p = absurd p
server_plain n x p = refl

below_server : (s a : ℕ) (x : Thing) → below (s, a) x ≤ is_server s x
below_server s a (counts r next old started made events) = by (r == s) (nat_lt a next)
  where
    by : (p q : Bool) → one (p && q) ≤ one p
    by true true = omega arith
    by true false = omega arith
    by false q = omega arith
below_server s a _ = omega arith

not_below : (m : ℕ) → nat_lt m m ≡ false
not_below m = by (nat_lt m m) refl
  where
    by : (b : Bool) → nat_lt m m ≡ b → b ≡ false
    by true e = absurd (grind (arith, nat_tests, e))
    by false e = refl

one_number : (s d n r a c : ℕ) → vacant r a c ≡ vacant s d n → c ≡ n
one_number s d n r a c e = cc

module _ (k : Cluster) (sound : IsSound k) (s : Server) (here : server_at k.servers s.rest.number ≡ Some s) where
  abbrev p : PartitionState
  p = s.rest.partition

  abbrev n : ℕ
  n = s.rest.number

  -- the next address has no state
  none_next : tot (states (n, length p.cells)) (things_of k) ≡ 0
  none_next =
      let at : ℕ × ℕ = (n, length p.cells) in
      let own : below at (counts_at s) ≡ 0 = ap₂ (λ a b. one (a && b)) (eq-eqb n n refl) (not_below (length p.cells)) in
      let one_here : is_server n (counts_at s) ≡ 1 = ap one (eq-eqb n n refl) in
      let sums : Sums (things_of k) = sound_has_sums k sound in
      omega (
        arith,
        sound.words.one_state at,
        (tot-server (below at) k.servers n s s here).0,
        (tot-server (is_server n) k.servers n s s here).0,
        counts_alone (below at) (below_plain at) s,
        counts_alone (is_server n) (server_plain n) s,
        own,
        one_here,
        sums.servers_differ n,
        tot_le (below at) (is_server n) (below_server n (length p.cells)) (servers_things (others_of k.servers n)),
      )

  -- a free address stands among the things
  free_among : (pair : ℕ × ℕ) (rest : List (ℕ × ℕ)) → p.free ≡ pair ∷ rest → Among (vacant n pair.0 pair.1) (things_of k)
  free_among pair rest e =
      let y = vacant n pair.0 pair.1 in
      let free : Among y (things_at (free_things n) 0 p.free) = subst (λ l. Among y (things_at (free_things n) 0 l)) (sym e) (inl refl) in
      of_server y n k.servers s here (of_partition y s (among_second y (things_at (cell_things n p.free) 0 p.cells) (things_at (free_things n) 0 p.free) free))

  module _ (w : ℕ) (server : server_of w ≡ n) where
    abbrev colours : ℕ
    colours = (sight k).options.colours

    abbrev ps : List Pointer
    ps = (sight k).pointers

    spot_is : (a q d : ℕ) → address_of w ≡ a → is_spot q d w ≡ true → (q ≡ n) × (d ≡ a)
    spot_is a q d address e =
        (sym (same_number (server_of w) q (and_left (server_of w == q) (address_of w == d) e)) ∙ server, sym (same_number (address_of w) d (and_right (server_of w == q) (address_of w == d) e)) ∙ address)

    -- an address without a state
    bare : (a : ℕ) → address_of w ≡ a → tot (states (n, a)) (things_of k) ≡ 0 → (x : Thing) → Among x (things_of k) → is_issued_at colours ps w x ≡ false
    bare a address none x h = by x refl
      where
        clash : (q d : ℕ) → is_spot q d w ≡ true → states (n, a) x ≡ one (q == n && d == a) → ⊥
        clash q d e is =
            let at = spot_is a q d address e in
            let few = none_at (states (n, a)) x (things_of k) none h in
            absurd (omega (arith, few, is, same_spot n a q d at.0 at.1))

        so : (q d : ℕ) (b : Bool) → states (n, a) x ≡ one (q == n && d == a) → is_spot q d w && b ≡ false
        so q d b is = go (is_spot q d w) refl
          where
            go : (c : Bool) → is_spot q d w ≡ c → c && b ≡ false
            go false e = refl
            go true e = absurd (clash q d e is)

        by : (y : Thing) → x ≡ y → is_issued_at colours ps w y ≡ false
        by (lies q d c) e = so q d (colour_up_to (word_of_object ps c.object) w) (ap (states (n, a)) e)
        by (vacant q d m) e = so q d (nat_lt (colour_of w) m) (ap (states (n, a)) e)
        by (retired q d) e = so q d (nat_lt (colour_of w) colours) (ap (states (n, a)) e)
        by _ e = refl

    -- a free address at the word's colour
    free : (a : ℕ) → address_of w ≡ a → Among (vacant n a (colour_of w)) (things_of k) → (x : Thing) → Among x (things_of k) → is_issued_at colours ps w x ≡ false
    free a address there x h = by x refl
      where
        same : (q d : ℕ) → is_spot q d w ≡ true → states (n, a) x ≡ one (q == n && d == a) → vacant n a (colour_of w) ≡ x
        same q d e is =
            let at = spot_is a q d address e in
            only_one (states (n, a)) (vacant n a (colour_of w)) x (things_of k) (one_state k sound (n, a)) there h (omega (arith, same_spot n a n a refl refl)) (omega (arith, is, same_spot n a q d at.0 at.1))

        by : (y : Thing) → x ≡ y → is_issued_at colours ps w y ≡ false
        by (lies q d c) e = go (is_spot q d w) refl
          where
            go : (b : Bool) → is_spot q d w ≡ b → b && colour_up_to (word_of_object ps c.object) w ≡ false
            go false f = refl
            go true f = let z : vacant n a (colour_of w) ≡ lies q d c = same q d f (ap (states (n, a)) e) ∙ e in absurd (cc z)
        by (vacant q d m) e = go (is_spot q d w) refl
          where
            go : (b : Bool) → is_spot q d w ≡ b → b && nat_lt (colour_of w) m ≡ false
            go false f = refl
            go true f = let z : vacant n a (colour_of w) ≡ vacant q d m = same q d f (ap (states (n, a)) e) ∙ e in subst (λ i. nat_lt (colour_of w) i ≡ false) (one_number q d m n a (colour_of w) z) (not_below (colour_of w))
        by (retired q d) e = go (is_spot q d w) refl
          where
            go : (b : Bool) → is_spot q d w ≡ b → b && nat_lt (colour_of w) colours ≡ false
            go false f = refl
            go true f = let z : vacant n a (colour_of w) ≡ retired q d = same q d f (ap (states (n, a)) e) ∙ e in absurd (cc z)
        by _ e = refl

    pub not_issued : address_of w ≡ (picked p.free (length p.cells)).0 → colour_of w ≡ (picked p.free (length p.cells)).1 → issued (sight k) w ≡ false
    not_issued address colour = none_issued colours w ps (things_of k) (by p.free refl address colour)
      where
        by : (fl : List (ℕ × ℕ)) → p.free ≡ fl → address_of w ≡ (picked fl (length p.cells)).0 → colour_of w ≡ (picked fl (length p.cells)).1 → (x : Thing) → Among x (things_of k) → is_issued_at colours ps w x ≡ false
        by [] e f g = bare (length p.cells) f none_next
        by (pair ∷ rest) e f g = free pair.0 f (subst (λ c. Among (vacant n pair.0 c) (things_of k)) (sym g) (free_among pair rest e))
