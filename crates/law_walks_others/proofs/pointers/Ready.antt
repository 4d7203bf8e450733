-- Making a place ready leaves each cell, words included, but those of objects that a write passes on its way.
use Rattle.std.proofs.Common.{◌≡◌, ◌⊎◌, inl, inr, ⊎_elim, ℕ, zero, suc, ◌+◌, ◌<◌, ◌≤◌, ◌==◌, ◌&&◌, is_some, Bool, true, false, nat_lt, if◌then◌else◌, List, [], ◌∷◌, ◌++◌, length, Option, Some, None, refl, ◌∙◌, ap, subst, sym, arith}
use Rattle.std.specs.Prelude.{slice_get, slice_set}
use Rattle.std.specs.Bool.{⊤}
use Rattle.std.proofs.lemmas.Option.{slice_get_within}
use Rattle.law_words_values.proofs.Below.fr_typing.PlaceLemmas.{eq_cases}
use Rattle.law_words_values.specs.Below.fr_base.declared.place.Lval.{Lval}
use Rattle.law_words_values.specs.Below.fr_base.Lists.{is_in}
use Rattle.law_words_values.specs.Below.global_addr.Words.{colour_of, server_of, address_of}
use Rattle.law_words_values.specs.Below.heap_partition.declared.value.BoxPtr.{BoxPtr}
use Rattle.law_words_values.specs.Below.heap_partition.declared.value.Cell.{Cell}
use Rattle.law_words_values.specs.Below.heap_partition.declared.value.Owned.{Owned}
use Rattle.law_words_values.specs.Below.owner_box.View.{PartitionState}
use Rattle.law_words_values.specs.Below.colour_retire.Colours.{picked}
use Rattle.law_words_values.specs.Below.owner_box.Partition.{put_cell as put_cells, cell_of, stored, freed, made, made_again, renewed}
use Rattle.law_words_values.specs.Below.read_cache.Cache.{can_pin, pin}
use Rattle.law_words_values.specs.Below.mut_borrow.Refs.{cleaned_answer, finish_word}
use Rattle.law_words_values.specs.Below.mut_borrow.declared.shared.SharedRef.{SharedRef}
use Rattle.law_words_values.specs.Below.mut_borrow.declared.mutable.MutRef.{MutRef}
use Rattle.law_words_values.specs.Below.mut_borrow.declared.mutable.Cleaned.{Cleaned}
use Rattle.law_words_values.specs.Below.mut_borrow.declared.mutable.Cleaned.TheVariants as cleaned
use Rattle.law_words_values.specs.Below.thread_state.declared.value.Value.{Value}
use Rattle.law_words_values.specs.Below.thread_state.declared.value.Value.TheVariants as value
use Rattle.law_words_values.specs.Below.server_msgs.declared.message.Message.{Message}
use Rattle.law_words_values.specs.Below.server_msgs.declared.message.Message.TheVariants as message
use Rattle.law_words_values.specs.Below.journal.declared.act.Act.{Act}
use Rattle.law_words_values.specs.Below.journal.declared.act.Act.TheVariants as act
use Rattle.law_words_values.specs.Below.place_walk.declared.hop.Hop.{Hop}
use Rattle.law_words_values.specs.Below.place_walk.declared.hop.Hop.TheVariants as hop
use Rattle.law_words_values.specs.Below.place_walk.Hops.{read_hop, write_hop}
use Rattle.law_words_values.specs.Below.server_model.Servers.{Rest}
use Rattle.law_words_values.specs.Below.server_model.Work.{Hand, sent_from, leads_here, look, note, with_cache, with_partition, working, then_some, used_once}
use Rattle.law_words_values.specs.Below.server_model.NewWords.{NewWord, can_grow, is_last, issue_tint, issue_renewal, issue_colour}
use Rattle.law_words_values.specs.Below.server_model.Places.{Spot, in_slot, on_top, in_cell, in_copy, nowhere, value_in, value_at, load_at, note_write, put_cell, put_at, pointer_of, with_word, set_pointer, put_word}
use Rattle.law_words_values.specs.Below.server_model.Prepare.{Access, ReadTo, ReadPointer, WriteTo, LendTo, EndRef, Prepared, ready, requested, nothing, and_then, ready_at, ask_copy, ask_object, request_by, box_of, clean_last, cleaned_by, clean_value, pinned_once, use_copy, hopped, local, hit_by, read_by, read_value, read_clean, tinted_first, read_star, read_stars, passing, box_ready, colour_box, write_by, pass_by, write_value, write_star, write_stars, read_pointer, is_taken, lend_by, lend_value, lend_pointer, follow_holder, follow_ended, unlabelled, end_ref, prepare}
use Rattle.law_words_values.specs.Below.coherent_memory.Names.{tot, one}
use Rattle.law_words_values.specs.Below.coherent_memory.Things.{Thing, vacant, retired, partition_things}
use Rattle.law_words_values.specs.Below.coherent_memory.Weights.{states}
use Rattle.law_words_values.proofs.Below.coherent_memory.Names.{and_left, and_right}
use Rattle.law_words_values.specs.Below.law_counts_sums.Laws.{Gives}
use Rattle.law_words_values.proofs.Below.law_counts_sums.Results.{then_gives, test_gives, bind_gives}
use Rattle.law_words_values.proofs.Below.law_counts_sums.Bags.{of_sending, sent_number}
use Rattle.law_words_values.proofs.Below.law_counts_sums.Cells.{left_by, looked, frees}
use Rattle.law_words_values.proofs.Below.law_counts_sums.Objects.{length_set, taken_place, makes}
use Rattle.law_words_values.proofs.Below.law_counts_sums.Values.{stores}
use Rattle.law_words_values.proofs.Below.law_heap_still.events.Addresses.{InPlace, lies_alone, next_empty, stored_places, renews}
use Rattle.law_walks_others.proofs.pointers.Cells.{Seeing, cell_weight, amount, rest_seen}

-- a message leaves the partition
pub same_partition : (r : Rest) (target : ℕ) (m : Message) → (sent_from r target m).partition ≡ r.partition
same_partition r target m = by (target == r.number)
  where
    by : (b : Bool) → (if b then record r { inbox = r.inbox ++ m ∷ [] } else record r { outbox = r.outbox ++ record { target = target; message = m } ∷ [] }).partition ≡ r.partition
    by true = refl
    by false = refl

-- the state of an address that is left
left_state : (n limit w a : ℕ) → states (n, a) (left_by n limit w) ≡ one (n == n && address_of w == a)
left_state n limit w a = by (nat_lt (colour_of w + 1) limit)
  where
    by : (b : Bool) → states (n, a) (if b then vacant n (address_of w) (colour_of w + 1) else retired n (address_of w)) ≡ one (n == n && address_of w == a)
    by true = refl
    by false = refl

freed_places : (n : ℕ) (p : PartitionState) (w : ℕ) (c : Cell) → slice_get p.cells (address_of w) ≡ Some (Some c) → InPlace n p → InPlace n (freed p w)
freed_places n p w c e placed a =
    let t = frees n p w c e (lies_alone n p placed (address_of w) c e) in
    let f = states (n, a) in
    let same : one (nat_lt a (length (freed p w).cells)) ≡ one (nat_lt a (length p.cells)) = ap (λ m. one (nat_lt a m)) (length_set p.cells (address_of w) None) in
    omega (arith, placed a, t.before f, t.after f, same, left_state n p.limit w a)

-- the cell that a word leads to which leads here
pub led_here : (p : PartitionState) (w : ℕ) → leads_here p w ≡ true → is_some (cell_of p w) ≡ true
led_here p w on = and_right (server_of w == p.server) (is_some (cell_of p w)) (and_left ((server_of w == p.server) && is_some (cell_of p w)) (nat_lt (colour_of w) p.limit) on)

-- WHERE CELLS ARE

same_cell : {a b : Cell} → Some (Some a) ≡ Some (Some b) → a ≡ b
same_cell e = cc

-- what is there after one went was there
set_was : (xs : List (Option Cell)) (a b : ℕ) (c : Cell) → slice_get (slice_set xs a None) b ≡ Some (Some c) → slice_get xs b ≡ Some (Some c)
set_was [] a b c e = e
set_was (x ∷ xs) zero zero c e = absurd (cc e)
set_was (x ∷ xs) zero (suc b) c e = e
set_was (x ∷ xs) (suc a) zero c e = e
set_was (x ∷ xs) (suc a) (suc b) c e = set_was xs a b c e

-- another one stays
set_stays : (xs : List (Option Cell)) (a b : ℕ) (c : Cell) → slice_get xs b ≡ Some (Some c) → (b ≡ a) ⊎ (slice_get (slice_set xs a None) b ≡ Some (Some c))
set_stays [] a b c e = inr e
set_stays (x ∷ xs) zero zero c e = inl refl
set_stays (x ∷ xs) zero (suc b) c e = inr e
set_stays (x ∷ xs) (suc a) zero c e = inr e
set_stays (x ∷ xs) (suc a) (suc b) c e = ⊎_elim (λ (l : b ≡ a). inl (ap suc l)) (λ r. inr r) (set_stays xs a b c e)

-- what is there after one came was there, or came
came_set : (xs : List (Option Cell)) (a b : ℕ) (c d : Cell) → slice_get (slice_set xs a (Some c)) b ≡ Some (Some d) → ((b ≡ a) × (d ≡ c)) ⊎ (slice_get xs b ≡ Some (Some d))
came_set [] a b c d e = inr e
came_set (x ∷ xs) zero zero c d e = inl (refl, sym (same_cell e))
came_set (x ∷ xs) zero (suc b) c d e = inr e
came_set (x ∷ xs) (suc a) zero c d e = inr e
came_set (x ∷ xs) (suc a) (suc b) c d e = ⊎_elim (λ (l : (b ≡ a) × (d ≡ c)). inl (ap suc l.0, l.1)) (λ r. inr r) (came_set xs a b c d e)

came_last : (xs : List (Option Cell)) (b : ℕ) (c d : Cell) → slice_get (xs ++ Some c ∷ []) b ≡ Some (Some d) → ((b ≡ length xs) × (d ≡ c)) ⊎ (slice_get xs b ≡ Some (Some d))
came_last [] zero c d e = inl (refl, sym (same_cell e))
came_last [] (suc b) c d e = absurd (cc e)
came_last (x ∷ xs) zero c d e = inr e
came_last (x ∷ xs) (suc b) c d e = ⊎_elim (λ (l : (b ≡ length xs) × (d ≡ c)). inl (ap suc l.0, l.1)) (λ r. inr r) (came_last xs b c d e)

came : (xs : List (Option Cell)) (a b : ℕ) (c d : Cell) → slice_get (put_cells xs a c) b ≡ Some (Some d) → ((b ≡ a) × (d ≡ c)) ⊎ (slice_get xs b ≡ Some (Some d))
came xs a b c d = eq_cases (λ q. slice_get (if q then xs ++ Some c ∷ [] else slice_set xs a (Some c)) b ≡ Some (Some d) → ((b ≡ a) × (d ≡ c)) ⊎ (slice_get xs b ≡ Some (Some d))) a (length xs)
    (λ same e. ⊎_elim (λ (l : (b ≡ length xs) × (d ≡ c)). inl (l.0 ∙ sym same, l.1)) (λ r. inr r) (came_last xs b c d e)) (λ ne e. came_set xs a b c d e)

-- the next address is empty
next_vacant : (n : ℕ) (q : PartitionState) → InPlace n q → (c : Cell) → slice_get q.cells (picked q.free (length q.cells)).0 ≡ Some (Some c) → ⊥
next_vacant n q placed c = by q.free refl
  where
    by : (fl : List (ℕ × ℕ)) → q.free ≡ fl → slice_get q.cells (picked fl (length q.cells)).0 ≡ Some (Some c) → ⊥
    by [] e h = (let less = slice_get_within q.cells (length q.cells) (Some c) h in absurd (omega (arith, less)))
    by (pair ∷ rest) e h = absurd (cc (sym (next_empty n q placed pair rest e) ∙ h))

-- where an object gets another address, what is found under a word that led to a cell is that cell
found_again : (n : ℕ) (p : PartitionState) (w u : ℕ) (c d : Cell) → leads_here p w ≡ true → InPlace n p → look p u ≡ Some c → look (renewed p w) u ≡ Some d → d ≡ c
found_again n p w u c d on placed was = by (cell_of p w) refl
  where
    by : (o : Option Cell) → cell_of p w ≡ o → look (made_again (freed p w) o) u ≡ Some d → d ≡ c
    by None e is = absurd (cc (sym (ap is_some e) ∙ led_here p w on))
    by (Some x) e is =
        let q = freed p w in
        let here : look p w ≡ Some x = subst (λ b. (if b then cell_of p w else None) ≡ Some x) (sym on) e in
        let at : slice_get p.cells (address_of w) ≡ Some (Some x) = looked p w x here in
        let before : slice_get p.cells (address_of u) ≡ Some (Some c) = looked p u c was in
        let after : slice_get (made q x).cells (address_of u) ≡ Some (Some d) = looked (made q x) u d is in
        let a : ℕ = (picked q.free (length q.cells)).0 in
        ⊎_elim
        (λ (l : (address_of u ≡ a) × (d ≡ x)). ⊎_elim (λ (s : address_of u ≡ address_of w). l.1 ∙ same_cell (sym at ∙ ap (slice_get p.cells) (sym s) ∙ before))
        (λ (r : slice_get q.cells (address_of u) ≡ Some (Some c)). absurd (next_vacant n q (freed_places n p w x at placed) c (ap (slice_get q.cells) (sym l.0) ∙ r))) (set_stays p.cells (address_of w) (address_of u) c before))
        (λ (r : slice_get q.cells (address_of u) ≡ Some (Some d)). same_cell (sym (set_was p.cells (address_of w) (address_of u) d r) ∙ before)) (came q.cells a (address_of u) x d after)

module _ (see : Seeing) where
  abbrev f : Thing → ℕ
  f x = cell_weight see x

  -- what may be put over, where the weight sees nothing of the cell's object
  abbrev pub Blind : Spot → PartitionState → Type 0
  Blind (in_cell u q) p = (c : Cell) → look p u ≡ Some c → (r : Option ℕ) (v : Owned) → see.cells r c.object v ≡ 0
  Blind s p = ⊤

  -- an address isn't seen
  left_unseen : (n limit w : ℕ) → f (left_by n limit w) ≡ 0
  left_unseen n limit w = by (nat_lt (colour_of w + 1) limit)
    where
      by : (b : Bool) → f (if b then vacant n (address_of w) (colour_of w + 1) else retired n (address_of w)) ≡ 0
      by true = refl
      by false = refl

  pub place_unseen : (n : ℕ) (fl : List (ℕ × ℕ)) → tot f (taken_place n fl) ≡ 0
  place_unseen n [] = refl
  place_unseen n (pair ∷ rest) = refl

  -- an object that gets another address is seen as before
  renewed_seen : (n : ℕ) (p : PartitionState) (w : ℕ) → leads_here p w ≡ true → InPlace n p → tot f (partition_things n (renewed p w)) ≡ tot f (partition_things n p)
  renewed_seen n p w on placed = by (cell_of p w) refl
    where
      by : (o : Option Cell) → cell_of p w ≡ o → tot f (partition_things n (made_again (freed p w) o)) ≡ tot f (partition_things n p)
      by None e = absurd (cc (sym (ap is_some e) ∙ led_here p w on))
      by (Some c) e =
          let q = freed p w in
          let here : look p w ≡ Some c = subst (λ b. (if b then cell_of p w else None) ≡ Some c) (sym on) e in
          let at : slice_get p.cells (address_of w) ≡ Some (Some c) = looked p w c here in
          let t = frees n p w c at (lies_alone n p placed (address_of w) c at) in
          let u = makes n q c q.free (next_empty n q (freed_places n p w c at placed)) in
          omega (arith, t.before f, t.after f, u.before f, u.after f, left_unseen n p.limit w, place_unseen n q.free)

  module _ (n least : ℕ) where
    -- no less is there
    abbrev pub Much : Rest → Type 0
    Much r = (r.number ≡ n) × (least ≤ amount see n r.partition r.inbox r.outbox)

    -- the same, and each address has one state
    abbrev pub Least : Rest → Type 0
    Least r = Much r × InPlace n r.partition

    abbrev pub Good : Hand → Type 0
    Good h = Least h.work.rest

    -- WHAT LEAVES IT

    sent_much : (r : Rest) (target : ℕ) (m : Message) → Much r → Much (sent_from r target m)
    sent_much r target m g = (
      sent_number r target m ∙ g.0,
      (let t = of_sending n 0 r g.0 target m in omega (arith, g.1, t.before f, t.after f, rest_seen see n 0 r, rest_seen see n 0 (sent_from r target m))),
    )

    pub sends : (r : Rest) (target : ℕ) (m : Message) → Least r → Least (sent_from r target m)
    sends r target m g = (sent_much r target m g.0, subst (InPlace n) (sym (same_partition r target m)) g.1)

    -- VALUES ARE PUT

    -- the mark of a write changes the thread alone
    notes : (q : Option ℕ) (h : Hand) → Good h → Good (note_write q h)
    notes None h g = g
    notes (Some i) h g = g

    covers_cell : (u : ℕ) (q : Option ℕ) (v : Owned) (h : Hand) → Blind (in_cell u q) h.work.rest.partition → Good h → Gives Good (put_cell u q v h)
    covers_cell u q v h blind g = test_gives Good (leads_here h.work.rest.partition u) _ (λ on. notes q (working (with_partition (stored h.work.rest.partition u v)) h) (by on (cell_of h.work.rest.partition u) refl))
      where
        by : leads_here h.work.rest.partition u ≡ true → (o : Option Cell) → cell_of h.work.rest.partition u ≡ o → Least (record h.work.rest { partition = stored h.work.rest.partition u v })
        by on None e = absurd (cc (sym (ap is_some e) ∙ led_here h.work.rest.partition u on))
        by on (Some c) e =
            let x = h.work.rest.partition in
            let here : look x u ≡ Some c = subst (λ b. (if b then cell_of x u else None) ≡ Some c) (sym on) e in
            let t = stores n x u c v here in ((g.0.0, omega (arith, g.0.1, t.before f, t.after f, blind c here (Some n) c.value, blind c here (Some n) v)), stored_places n x u c v here g.1)

    pub puts : (s : Spot) (v : Value) (h : Hand) → Blind s h.work.rest.partition → Good h → Gives Good (put_at s v h)
    puts (in_slot i) v h b g = test_gives Good (nat_lt i (length h.thread.slots)) _ (λ on. g)
    puts on_top v h b g = g
    puts (in_cell u q) (value.Own v) h b g = covers_cell u q v h b g
    puts (in_cell u q) value.Gone h b g = tt
    puts (in_cell u q) (value.SharedSlot i) h b g = tt
    puts (in_cell u q) (value.MutSlot i) h b g = tt
    puts (in_cell u q) (value.Shared r) h b g = tt
    puts (in_cell u q) (value.Mut r) h b g = tt
    puts (in_cell u q) (value.Held m) h b g = tt
    puts (in_copy u) v h b g = tt
    puts nowhere v h b g = tt

    pub sets : (s : Spot) (u : ℕ) (h : Hand) → Blind s h.work.rest.partition → Good h → Gives Good (set_pointer s u h)
    sets s u h b g = then_gives Good (value_at h s) _ (λ v e. then_gives Good (with_word u v) _ (λ new q. puts s new h b g))

    -- where no cell is, whatever is there is put over nothing that is seen
    abbrev NoCell : Spot → Type 0
    NoCell s = (p : PartitionState) → Blind s p

    no_mutable : (o : Option Cell) (q : MutRef) → value_in o ≡ Some (value.Mut q) → ⊥
    no_mutable None q e = absurd (cc e)
    no_mutable (Some c) q e = absurd (cc e)

    -- a mutable reference stands in no cell
    held_there : (s : Spot) (h : Hand) (q : MutRef) → value_at h s ≡ Some (value.Mut q) → NoCell s
    held_there (in_slot i) h q e p = tt
    held_there on_top h q e p = tt
    held_there (in_cell u t) h q e p = absurd (no_mutable (look h.work.rest.partition u) q e)
    held_there (in_copy u) h q e p = tt
    held_there nowhere h q e p = tt

    -- so where one stands
    abbrev Held : Spot → Option Value → Type 0
    Held s v = (q : MutRef) → v ≡ Some (value.Mut q) → NoCell s

    held_at : (s : Spot) (h : Hand) → Held s (value_at h s)
    held_at s h q e = held_there s h q e

    -- ready or asked

    abbrev pub Fine : Prepared → Type 0
    Fine (ready h s) = Good h
    Fine (requested h) = Good h
    Fine nothing = ⊤

    then_fine : (x : Prepared) (go : Hand → Spot → Prepared) → Fine x → ((h : Hand) (s : Spot) → x ≡ ready h s → Good h → Fine (go h s)) → Fine (and_then go x)
    then_fine (ready h s) go g w = w h s refl g
    then_fine (requested h) go g w = g
    then_fine nothing go g w = tt

    ready_fine : (s : Spot) (o : Option Hand) → Gives Good o → Fine (ready_at s o)
    ready_fine s None g = tt
    ready_fine s (Some h) g = g

    if_fine : (b : Bool) (x y : Prepared) → Fine x → Fine y → Fine (if b then x else y)
    if_fine true x y f g = f
    if_fine false x y f g = g

    -- REQUESTS

    copy_asked : (p : BoxPtr) (h : Hand) → Good h → Good (ask_copy p h)
    copy_asked p h g = sends h.work.rest (server_of p.word) (message.Fetch p.word p.object h.work.rest.number h.thread.number) g

    object_asked : (p : BoxPtr) (h : Hand) → Good h → Good (ask_object p h)
    object_asked p h g = sends h.work.rest (server_of p.word) (message.Move p.word p.object h.work.rest.number h.thread.number) g

    asked_fine : (request : BoxPtr → Hand → Hand) → ((p : BoxPtr) (h : Hand) → Good h → Good (request p h)) → (h : Hand) (o : Option BoxPtr) → Good h → Fine (request_by request h o)
    asked_fine request w h None g = tt
    asked_fine request w h (Some p) g = w p h g

    -- NEW WORDS

    abbrev NewGood : Hand → NewWord → Type 0
    NewGood h m = Good (record h { work = m.work })

    words : (s : Spot) (m : NewWord) (h : Hand) → Blind s m.work.rest.partition → NewGood h m → Gives Good (put_word s m h)
    words s m h b g = sets s m.word (record h { work = m.work }) b g

    issues_renewal : (p : BoxPtr) (h : Hand) → Good h → Gives (NewGood h) (issue_renewal p h.work)
    issues_renewal p h g =
        let q = h.work.rest.partition in
        test_gives (NewGood h) (leads_here q p.word && (is_last q p.word && can_grow q)) _ (λ on.
        let there = and_left (leads_here q p.word) (is_last q p.word && can_grow q) on in
        let placed : InPlace h.work.rest.number q = subst (λ m. InPlace m q) (sym g.0.0) g.1 in
        let after : InPlace n (renewed q p.word) = subst (λ m. InPlace m (renewed q p.word)) g.0.0 (renews h.work.rest p.word there placed).1 in
        ((g.0.0, omega (arith, g.0.1, renewed_seen n q p.word there g.1)), after))

    colours : (p : BoxPtr) (h : Hand) → Good h → Gives (NewGood h) (issue_colour p h.work)
    colours p h g = by (nat_lt (colour_of p.word + 1) h.work.rest.partition.limit)
      where
        by : (b : Bool) → Gives (NewGood h) (if b then Some (issue_tint p h.work) else issue_renewal p h.work)
        by true = g
        by false = issues_renewal p h g

    -- CLEANING

    last_cleans : (s : Spot) (q : MutRef) (h : Hand) → NoCell s → Good h → Fine (clean_last s q h)
    last_cleans s q h none g =
        if_fine (server_of q.word == h.work.rest.number) (ready_at s (then_some (issue_renewal (box_of q) h.work) (λ m. put_word s m h))) (requested (ask_object (box_of q) h))
        (ready_fine s (then_some (issue_renewal (box_of q) h.work) (λ m. put_word s m h)) (bind_gives (NewGood h) Good (issue_renewal (box_of q) h.work) (λ m. put_word s m h) (issues_renewal (box_of q) h g) (λ m u. words s m h (none m.work.rest.partition) u)))
        (object_asked (box_of q) h g)

    cleans_by : (a : Cleaned) (s : Spot) (q : MutRef) (h : Hand) → NoCell s → Good h → Fine (cleaned_by a s q h)
    cleans_by cleaned.Same s q h none g = g
    cleans_by (cleaned.Tinted w) s q h none g = ready_fine s (put_word s (issue_tint (box_of q) h.work) h) (words s (issue_tint (box_of q) h.work) h (none h.work.rest.partition) g)
    cleans_by cleaned.MustRenew s q h none g = last_cleans s q h none g

    cleans : (s : Spot) (v : Option Value) (h : Hand) → Held s v → Good h → Fine (clean_value s v h)
    cleans s (Some (value.Mut q)) h held g =
        if_fine (nat_lt (colour_of q.word) h.work.rest.partition.limit) (cleaned_by (cleaned_answer h.work.rest.partition.limit q) s q h) nothing (cleans_by (cleaned_answer h.work.rest.partition.limit q) s q h (held q refl) g) tt
    cleans s _ h held g = g

    -- READING

    pins_once : (s : Spot) (q : SharedRef) (b : Bool) (h : Hand) → Good h → Gives Good (pinned_once s q b h)
    pins_once s q true h g = g
    pins_once s q false h g = test_gives Good (can_pin h.work.rest.cache q.word) _ (λ on. by s (working (with_cache (pin h.work.rest.cache q.word)) h) g)
      where
        by : (s : Spot) (h2 : Hand) → Good h2 → Gives Good (put_at s (value.Shared (record q { pinned = true })) h2)
        by (in_slot i) h2 u = puts (in_slot i) (value.Shared (record q { pinned = true })) h2 tt u
        by on_top h2 u = u
        by (in_cell w through) h2 u = tt
        by (in_copy w) h2 u = tt
        by nowhere h2 u = tt

    word_used : (w : ℕ) (b : Bool) (h : Hand) → Good h → Gives Good (used_once w b h)
    word_used w true h g = g
    word_used w false h g = test_gives Good (can_pin h.work.rest.cache w) _ (λ on. g)

    copy_used : (s : Spot) (v : Value) (w : ℕ) (h : Hand) → Good h → Gives Good (use_copy s v w h)
    copy_used s (value.Shared q) w h g = pins_once s q q.pinned h g
    copy_used s _ w h g = word_used w (is_in w h.thread.walk) h g

    hops : (g : BoxPtr → Act) (o : Option BoxPtr) (h : Hand) → Good h → Good (hopped (λ p. note (g p)) o h)
    hops a None h g = g
    hops a (Some p) h g = g

    local_kept : (v : Value) (h : Hand) → Good h → Good (local v h)
    local_kept v h g = hops (λ p. act.Local p.object p.word) (pointer_of v) h g

    reads_by : (s : Spot) (v : Value) (o : Option Hop) (h : Hand) → Good h → Fine (read_by s v o h)
    reads_by s v (Some (hop.Slot i)) h g = g
    reads_by s v (Some (hop.Direct w)) h g = local_kept v h g
    reads_by s v (Some (hop.Hit w)) h g = ready_fine (in_copy w) (use_copy s v w (hit_by v h)) (copy_used s v w (hit_by v h) (hops (λ p. act.Hit p.object p.word) (pointer_of v) h g))
    reads_by s v (Some (hop.NeedCopy w)) h g = asked_fine ask_copy copy_asked h (pointer_of v) g
    reads_by s v _ h g = tt

    reads_value : (s : Spot) (v : Option Value) (h : Hand) → Good h → Fine (read_value s v h)
    reads_value s None h g = tt
    reads_value s (Some v) h g = reads_by s v (read_hop h.work.rest.number h.work.rest.cache v) h g

    reads_clean : (s : Spot) (v : Value) (o : Option Hop) (h : Hand) → Held s (Some v) → Good h → Fine (read_clean s v o h)
    reads_clean s v (Some (hop.NeedTint w)) h held g = cleans s (Some v) h held g
    reads_clean s v _ h held g = g

    tints_first : (s : Spot) (v : Option Value) (h : Hand) → Held s v → Good h → Fine (tinted_first s v h)
    tints_first s None h held g = tt
    tints_first s (Some v) h held g = reads_clean s v (read_hop h.work.rest.number h.work.rest.cache v) h held g

    reads_star : (h : Hand) (s : Spot) → Good h → Fine (read_star h s)
    reads_star h s g = then_fine (tinted_first s (value_at h s) (load_at s h)) _ (tints_first s (value_at h s) (load_at s h) (held_at s h) g) (λ h2 s2 e u. reads_value s2 (value_at h2 s2) h2 u)

    reads_stars : (d : ℕ) (h : Hand) (s : Spot) → Good h → Fine (read_stars d h s)
    reads_stars zero h s g = g
    reads_stars (suc d) h s g = then_fine (read_star h s) (read_stars d) (reads_star h s g) (λ h2 s2 e u. reads_stars d h2 s2 u)

    -- BORROWS

    reads_pointer : (w : Lval) (d : ℕ) (h : Hand) → Good h → Fine (read_pointer w d h)
    reads_pointer w zero h g = g
    reads_pointer w (suc d) h g = then_fine (read_stars d h (in_slot w.slot)) _ (reads_stars d h (in_slot w.slot) g) (λ h2 s e u. cleans s (value_at h2 s) (load_at s h2) (held_at s h2) u)

    lends_by : (s : Spot) (v : Value) (o : Option Hop) (h : Hand) → Good h → Fine (lend_by s v o h)
    lends_by s v None h g = tt
    lends_by s v (Some (hop.NeedMove w)) h g = if_fine (is_taken h.thread.phase) (ready h s) (request_by ask_object h (pointer_of v)) g (asked_fine ask_object object_asked h (pointer_of v) g)
    lends_by s v (Some _) h g = g

    lends_value : (s : Spot) (v : Option Value) (h : Hand) → Good h → Fine (lend_value s v h)
    lends_value s None h g = tt
    lends_value s (Some v) h g = lends_by s v (write_hop h.work.rest.number v) h g

    lends_pointer : (w : Lval) (d : ℕ) (h : Hand) → Good h → Fine (lend_pointer w d h)
    lends_pointer w zero h g = g
    lends_pointer w (suc d) h g = then_fine (read_stars d h (in_slot w.slot)) _ (reads_stars d h (in_slot w.slot) g) (λ h2 s e u. lends_value s (value_at h2 s) (load_at s h2) u)

    -- WRITING

    -- each spot that is passed is one of which nothing is seen, but for the last one
    abbrev pub Passes : ℕ → ℕ → Hand → Spot → Type 0
    Passes d m h s = (j : ℕ) → j < d → (h2 : Hand) (s2 : Spot) → write_stars j m h s ≡ ready h2 s2 → Blind s2 h2.work.rest.partition

    -- what a spot has that stands there is put over nothing that is seen, also where an object got another address
    module _ (s : Spot) (h : Hand) (v : Value) (there : value_at h s ≡ Some v) (blind : Blind s h.work.rest.partition) where
      cell_there : (o : Option Cell) → value_in o ≡ Some v → (c : Cell) × (o ≡ Some c)
      cell_there None e = absurd (cc e)
      cell_there (Some c) e = (c, refl)

      still_blind : (w : ℕ) → leads_here h.work.rest.partition w ≡ true → InPlace n h.work.rest.partition → Blind s (renewed h.work.rest.partition w)
      still_blind w on placed = by s there blind
        where
          by : (s : Spot) → value_at h s ≡ Some v → Blind s h.work.rest.partition → Blind s (renewed h.work.rest.partition w)
          by (in_slot i) e b = tt
          by on_top e b = tt
          by (in_cell u q) e b = λ d is r x. (let c = cell_there (look h.work.rest.partition u) e in let same : d ≡ c.0 = found_again n h.work.rest.partition w u c.0 d on placed c.1 is in subst (λ (y : Cell). see.cells r y.object x ≡ 0) (sym same) (b c.0 c.1 r x))
          by (in_copy u) e b = tt
          by nowhere e b = tt

    boxes_ready : (s : Spot) (o : Option NewWord) (h : Hand) → Gives (λ (m : NewWord). Blind s m.work.rest.partition) o → Gives (NewGood h) o → Fine (box_ready s o h)
    boxes_ready s None h b g = tt
    boxes_ready s (Some m) h b g = ready_fine (in_cell m.word None) (put_word s m h) (words s m h b g)

    colours_box : (s : Spot) (v : Value) (o : Option BoxPtr) (m : ℕ) (h : Hand) → value_at h s ≡ Some v → Blind s h.work.rest.partition → Good h → Fine (colour_box s o (passing m (load_at s h)))
    colours_box s v None m h e b g = tt
    colours_box s v (Some p) m h e b g = boxes_ready s (issue_colour p (load_at s h).work) (passing m (load_at s h)) (by (nat_lt (colour_of p.word + 1) h.work.rest.partition.limit)) (colours p (load_at s h) g)
      where
        by : (c : Bool) → Gives (λ (x : NewWord). Blind s x.work.rest.partition) (if c then Some (issue_tint p (load_at s h).work) else issue_renewal p (load_at s h).work)
        by true = b
        by false =
            let q = h.work.rest.partition in
            test_gives (λ (x : NewWord). Blind s x.work.rest.partition) (leads_here q p.word && (is_last q p.word && can_grow q)) _ (λ on. still_blind s h v e b p.word (and_left (leads_here q p.word) (is_last q p.word && can_grow q) on) g.1)

    writes_by : (m : ℕ) (s : Spot) (v : Value) (o : Option Hop) (h : Hand) → value_at h s ≡ Some v → Blind s h.work.rest.partition → Good h → Fine (write_by m s v o (load_at s h))
    writes_by m s v (Some (hop.Slot i)) h e b g = g
    writes_by m s v (Some (hop.NeedTint w)) h e b g = colours_box s v (pointer_of v) (m + 1) h e b g
    writes_by m s v (Some (hop.AtCell w)) h e b g = local_kept v (load_at s h) g
    writes_by m s v (Some (hop.NeedMove w)) h e b g = asked_fine ask_object object_asked (load_at s h) (pointer_of v) g
    writes_by m s v _ h e b g = tt

    passes_by : (s : Spot) (v : Value) (o : Option Hop) (h : Hand) → Good h → Fine (pass_by s v o h)
    passes_by s v (Some (hop.Slot i)) h g = g
    passes_by s v (Some (hop.NeedTint w)) h g = g
    passes_by s v (Some (hop.AtCell w)) h g = local_kept v h g
    passes_by s v _ h g = tt

    writes_value : (m : ℕ) (s : Spot) (v : Option Value) (h : Hand) → value_at h s ≡ v → Blind s h.work.rest.partition → Good h → Fine (write_value m s v (load_at s h))
    writes_value m s None h e b g = tt
    writes_value m s (Some v) h e b g =
        let o = write_hop h.work.rest.number v in
        if_fine (nat_lt m h.thread.passed) (pass_by s v o (load_at s h)) (write_by m s v o (load_at s h)) (passes_by s v o (load_at s h) g) (writes_by m s v o h e b g)

    pub writes_stars : (d m : ℕ) (h : Hand) (s : Spot) → Passes d m h s → Good h → Fine (write_stars d m h s)
    writes_stars zero m h s p g = g
    writes_stars (suc d) m h s p g =
        then_fine (write_star m h s) (write_stars d (m + 1)) (writes_value m s (value_at h s) h refl (p zero (omega arith) h s refl) g)
        (λ h2 s2 e u. writes_stars d (m + 1) h2 s2 (λ j lt h3 s3 q. p (suc j) (omega (arith, lt)) h3 s3 (ap (and_then (write_stars j (m + 1))) e ∙ q)) u)

    -- ENDS

    -- where the holder's place of a reference that is clean by then is followed
    abbrev pub EndPasses : Spot → Hand → Type 0
    EndPasses s h = (h1 : Hand) (s1 : Spot) (q : MutRef) (w : ℕ) → clean_value s (value_at h s) h ≡ ready h1 s1 → value_at h1 s1 ≡ Some (value.Mut q) → finish_word q ≡ Some w → Passes q.holder.depth 0 h1 (in_slot q.holder.slot)

    follows_holder : (q : MutRef) (o : Option ℕ) (h : Hand) → finish_word q ≡ o → ((w : ℕ) → finish_word q ≡ Some w → Passes q.holder.depth 0 h (in_slot q.holder.slot)) → Good h → Fine (follow_holder q o h)
    follows_holder q None h e p g = g
    follows_holder q (Some w) h e p g = writes_stars q.holder.depth 0 h (in_slot q.holder.slot) (p w e) g

    follows_ended : (v : Option Value) (h : Hand) → ((q : MutRef) (w : ℕ) → v ≡ Some (value.Mut q) → finish_word q ≡ Some w → Passes q.holder.depth 0 h (in_slot q.holder.slot)) → Good h → Fine (follow_ended v h)
    follows_ended (Some (value.Mut q)) h p g = follows_holder q (finish_word q) h refl (λ w e. p q w refl e) g
    follows_ended _ h p g = tt

    ends_ref : (s : Spot) (h : Hand) → EndPasses s h → Good h → Fine (end_ref s h)
    ends_ref s h p g =
        then_fine (and_then (λ h2 s2. follow_ended (value_at h2 s2) h2) (clean_value s (value_at h s) h)) unlabelled
        (then_fine (clean_value s (value_at h s) h) _ (cleans s (value_at h s) h (held_at s h) g) (λ h2 s2 e u. follows_ended (value_at h2 s2) h2 (λ q w there word. p h2 s2 q w e there word) u)) (λ h2 s2 e u. u)

    -- ANY ACCESS

    -- a write passes objects of which nothing is seen
    abbrev pub Aside : Option Access → Hand → Type 0
    Aside (Some (WriteTo w)) h = Passes w.depth 0 h (in_slot w.slot)
    Aside (Some (EndRef s)) h = EndPasses s h
    Aside a h = ⊤

    pub prepares : (a : Option Access) (h : Hand) → Aside a h → Good h → Fine (prepare a h)
    prepares None h p g = g
    prepares (Some (ReadTo w)) h p g = reads_stars w.depth h (in_slot w.slot) g
    prepares (Some (ReadPointer w)) h p g = reads_pointer w w.depth h g
    prepares (Some (WriteTo w)) h p g = writes_stars w.depth 0 h (in_slot w.slot) p g
    prepares (Some (LendTo w)) h p g = lends_pointer w w.depth h g
    prepares (Some (EndRef s)) h p g = ends_ref s h p g
