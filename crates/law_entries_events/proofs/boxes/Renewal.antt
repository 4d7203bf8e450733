-- An object gets another address at its server: what goes and comes there, that the act is allowed, and that its new word is one more that is issued.
use Rattle.std.proofs.Common.{◌≡◌, inl, inr, ℕ, zero, suc, ◌+◌, ◌≤◌, ◌==◌, ◌&&◌, ◌||◌, nat_lt, Bool, true, false, if◌then◌else◌, List, [], ◌∷◌, length, Option, Some, None, is_some, refl, sym, ap, ap₂, subst, ◌∙◌, arith}
use Rattle.std.specs.Prelude.{nat_le, slice_get, slice_set}
use Rattle.std.proofs.lemmas.Bool.{eq-eqb}
use Rattle.std.proofs.lemmas.Bool.Decides.{nat_tests}
use Rattle.law_entries_writes.specs.Below.law_entries_reads.Below.law_words_borrows.Below.fr_base.Lists.{is_in}
use Rattle.law_entries_writes.specs.Below.law_entries_reads.Below.law_words_borrows.Below.fr_base.Names.{same_object}
use Rattle.law_entries_writes.specs.Below.law_entries_reads.Below.law_words_borrows.Below.fr_base.declared.name.ObjNo.{ObjNo}
use Rattle.law_entries_writes.specs.Below.law_entries_reads.Below.law_words_borrows.Below.global_addr.Words.{word_of, colour_of, server_of, address_of}
use Rattle.law_entries_writes.specs.Below.law_entries_reads.Below.law_words_borrows.Below.heap_partition.declared.value.BoxPtr.{BoxPtr}
use Rattle.law_entries_writes.specs.Below.law_entries_reads.Below.law_words_borrows.Below.heap_partition.declared.value.Cell.{Cell}
use Rattle.law_entries_writes.specs.Below.law_entries_reads.Below.law_words_borrows.Below.law_counts_sums.Below.colour_retire.Colours.{picked}
use Rattle.law_entries_writes.specs.Below.law_entries_reads.Below.law_words_borrows.Below.owner_box.View.{PartitionState}
use Rattle.law_entries_writes.specs.Below.law_entries_reads.Below.law_words_borrows.Below.owner_box.Partition.{cell_of as cell_under, next_place, new_word, made, freed, made_again, renewed}
use Rattle.law_entries_writes.specs.Below.law_entries_reads.Below.law_words_borrows.Below.journal.View.{EntryView}
use Rattle.law_entries_writes.specs.Below.law_entries_reads.Below.law_words_borrows.Below.journal.declared.act.Act.{Act}
use Rattle.law_entries_writes.specs.Below.law_entries_reads.Below.law_words_borrows.Below.journal.declared.act.Act.TheVariants as act
use Rattle.law_entries_writes.specs.Below.law_entries_reads.Below.law_words_borrows.Below.server_model.Servers.{Rest, Server, Cluster, server_at}
use Rattle.law_entries_writes.specs.Below.law_entries_reads.Below.law_words_borrows.Below.server_model.Work.{leads_here, note, with_partition}
use Rattle.law_entries_writes.specs.Below.law_entries_reads.Below.law_words_borrows.Below.server_model.NewWords.{NewWord as Given, can_grow, is_last, issue_renewal}
use Rattle.law_entries_writes.specs.Below.law_entries_reads.Below.law_words_borrows.Below.server_model.Events.{begin_work}
use Rattle.law_entries_writes.specs.Below.law_entries_variables.Below.coloured_heap.Heap.{Coloured}
use Rattle.law_entries_writes.specs.Below.law_entries_reads.Below.law_words_borrows.Below.coherent_memory.Names.{Among, tot, one, some}
use Rattle.law_entries_writes.specs.Below.law_entries_reads.Below.law_words_borrows.Below.coherent_memory.Things.{Thing, lies, vacant, retired, is_free, things_of}
use Rattle.law_entries_writes.specs.Below.law_entries_reads.Below.law_words_borrows.Below.coherent_memory.Sight.{colour_up_to, is_spot, sight, issued}
use Rattle.law_entries_writes.specs.Below.law_entries_reads.Below.law_words_borrows.Below.coherent_memory.Weights.{cells, states}
use Rattle.law_entries_writes.specs.Below.law_entries_reads.Below.law_words_borrows.Below.coherent_memory.Words.{HasWords}
use Rattle.law_entries_writes.specs.Below.law_entries_reads.Below.law_words_borrows.Below.coherent_memory.Colours.{StandsColoured}
use Rattle.law_entries_writes.specs.Below.law_entries_reads.Below.law_words_borrows.Below.coherent_memory.Coherent.{IsSound}
use Rattle.law_entries_writes.specs.Below.law_entries_reads.Below.law_words_borrows.Below.coherent_types.ClusterTypes.{IsCoherent}
use Rattle.law_entries_writes.specs.Below.law_entries_reads.Below.law_words_borrows.Below.law_counts_sums.Laws.{FewEvents}
use Rattle.law_entries_writes.proofs.Below.law_entries_variables.Below.coherent_memory.Names.{and_left, and_right}
use Rattle.law_entries_writes.proofs.Below.law_entries_variables.Below.coherent_memory.Words.{itself}
use Rattle.law_entries_writes.proofs.Below.law_entries_reads.Below.law_words_borrows.Below.law_words_paths.paths.InState.{only_one}
use Rattle.law_entries_writes.proofs.Below.law_entries_reads.Below.law_words_borrows.Below.law_counts_sums.Bags.{of_partition as rest_with}
use Rattle.law_entries_writes.proofs.Below.law_entries_reads.Below.law_words_borrows.Below.law_counts_sums.Cells.{left_by, looked, frees}
use Rattle.law_entries_writes.proofs.Below.law_entries_reads.Below.law_words_borrows.Below.law_counts_sums.Objects.{length_set, taken_place, makes}
use Rattle.law_entries_writes.proofs.Below.law_entries_variables.Below.law_heap_still.events.Tests.{numbers}
use Rattle.law_entries_writes.proofs.Below.law_entries_variables.Below.law_heap_still.events.Told.{told, tot_but, some_or}
use Rattle.law_entries_writes.proofs.Below.law_entries_variables.Below.law_heap_still.events.Addresses.{in_place, lies_alone}
use Rattle.law_entries_writes.proofs.Below.law_entries_variables.Below.law_heap_still.events.Leaving.{others, placed_here}
use Rattle.law_entries_writes.proofs.Below.law_entries_reads.Below.law_words_borrows.Below.law_words_kept.reads.Lookups.{one_state}
use Rattle.law_entries_writes.proofs.Below.law_entries_reads.Below.law_words_borrows.Below.law_results_reads.Pointing.{its_partition}
use Rattle.law_entries_writes.proofs.Below.law_entries_reads.Below.law_words_borrows.Below.law_words_kept.moves.Relaid.{at_lies}
use Rattle.law_entries_writes.proofs.Below.law_entries_reads.Below.law_words_borrows.Below.law_words_values.made.Listed.{of_server, of_partition}
use Rattle.law_entries_writes.proofs.Below.law_entries_reads.Below.law_words_borrows.Below.law_words_values.made.Servers.{vacant_there}
use Rattle.law_entries_writes.proofs.Below.law_entries_variables.deliveries.Answers.{answers_of, fits, Allowed}
use Rattle.law_entries_writes.proofs.Below.law_entries_variables.deliveries.Weighed.{WorkTurns}
use Rattle.law_entries_writes.proofs.Below.law_entries_variables.deliveries.Shown.{placed_in}
use Rattle.law_entries_writes.proofs.Below.law_entries_variables.deliveries.Live.{issued_by, issued_seen, issued_told}
use Rattle.law_entries_writes.proofs.Below.law_entries_variables.deliveries.After.{Follows}
use Rattle.law_entries_writes.proofs.Below.law_entries_reads.served.Gives.{up_to}
use Rattle.law_entries_writes.proofs.Below.law_entries_reads.asks.Recoloured.{given_words, recoloured, none_given, renew_allowed}
use Rattle.law_entries_writes.proofs.Below.law_entries_reads.asks.Agreeing.{Rewords}
use Rattle.law_entries_writes.proofs.Below.law_entries_reads.asks.Pointed.{Pointed, is_named}
use Rattle.law_entries_events.proofs.boxes.NewAddress.{up_to_word, taken_none, taken_issued, NewWord, new_word_is}
use Rattle.law_entries_events.proofs.boxes.Reworded.{Moved}

-- what a test gives was tested
issued_so : (b : Bool) (x w : Given) → (if b then Some x else None) ≡ Some w → (b ≡ true) × (x ≡ w)
issued_so true x w e = (refl, cc)
issued_so false x w e = absurd cc

-- what is some is one
has_cell : (o : Option Cell) → is_some o ≡ true → (c : Cell) × (o ≡ Some c)
has_cell None e = absurd (cc e)
has_cell (Some c) e = (c, refl)

-- what is equal isn't less
not_less : (a b : ℕ) → (a == b) ≡ true → nat_lt a b ≡ false
not_less a b e = by (nat_lt a b) refl
  where
    by : (c : Bool) → nat_lt a b ≡ c → c ≡ false
    by true q = absurd (grind (arith, nat_tests, e, q))
    by false q = refl

-- one cell at one address
same_cell_there : (r a s d : ℕ) (c e : Cell) → lies r a c ≡ lies s d e → c ≡ e
same_cell_there r a s d c e f = cc

-- a cell weighs at its address
spot_weighs : (r a : ℕ) (c : Cell) (s d : ℕ) → r ≡ s → a ≡ d → 1 ≤ states (s, d) (lies r a c)
spot_weighs r a c s d e f = let w : one (r == s && a == d) ≡ 1 = ap₂ (λ p q. one (p && q)) (eq-eqb r s e) (eq-eqb a d f) in omega (arith, w)

-- where nothing is nothing stays, if nothing is put
still_none : (xs : List (Option Cell)) (a i : ℕ) → slice_get xs i ≡ Some None → slice_get (slice_set xs a None) i ≡ Some None
still_none [] a i e = e
still_none (x ∷ xs) zero zero e = refl
still_none (x ∷ xs) zero (suc i) e = e
still_none (x ∷ xs) (suc a) zero e = e
still_none (x ∷ xs) (suc a) (suc i) e = still_none xs a i e

-- two weights that differ at one thing alone
swap_one : (none f g : Thing → ℕ) → ((x : Thing) → none x ≡ 0 → f x ≡ g x) → (b : List Thing) → tot none b ≤ 1 → (y : Thing) → Among y b → 1 ≤ none y → tot f b + g y ≡ tot g b + f y
swap_one none f g same [] few y h l = absurd h
swap_one none f g same (x ∷ b) few y (inl e) l =
    let heavy : none x ≡ none y = ap none e in
    let here : f x ≡ f y = ap f e in
    let there : g x ≡ g y = ap g e in
    omega (arith, here, there, tot_but none f g same b (omega (arith, few, heavy, l)))
swap_one none f g same (x ∷ b) few y (inr h) l =
    let later : 1 ≤ tot none b = weighs none b y h l in
    omega (arith, same x (omega (arith, few, later)), swap_one none f g same b (omega (arith, few)) y h l)
  where
    weighs : (w : Thing → ℕ) (c : List Thing) (z : Thing) → Among z c → 1 ≤ w z → 1 ≤ tot w c
    weighs w [] z i m = absurd i
    weighs w (x ∷ c) z (inl e) m = let s : w x ≡ w z = ap w e in omega (arith, s, m)
    weighs w (x ∷ c) z (inr i) m = omega (arith, weighs w c z i m)

or_false : (b : Bool) → (b || false) ≡ b
or_false true = refl
or_false false = refl

module _ (k : Cluster) (coherent : IsCoherent k) (few : FewEvents k) (s : Server) (here : server_at k.servers s.rest.number ≡ Some s) (b : BoxPtr) (its : Pointed k coherent b) (mine : (server_of b.word == s.rest.number) ≡ true) (nw : Given) (issues : issue_renewal b (begin_work s.rest) ≡ Some nw) where
  abbrev sound : IsSound k
  sound = coherent.sound

  abbrev n : ℕ
  n = s.rest.number

  abbrev p : PartitionState
  p = s.rest.partition

  abbrev w : ℕ
  w = b.word

  abbrev q : PartitionState
  q = freed p w

  abbrev before : HasWords (sight k)
  before = sound.words.have_words

  -- WHAT WAS TESTED

  tested : ((leads_here p w && (is_last p w && can_grow p)) ≡ true) × (record { word = new_word q; work = note (act.Renew b.object w (new_word q)) (with_partition (renewed p w) (begin_work s.rest)) } ≡ nw)
  tested = issued_so (leads_here p w && (is_last p w && can_grow p)) _ nw issues

  leads : leads_here p w ≡ true
  leads = and_left (leads_here p w) (is_last p w && can_grow p) tested.0

  last : (colour_of w + 1 == p.limit) ≡ true
  last = and_left (is_last p w) (can_grow p) (and_right (leads_here p w) (is_last p w && can_grow p) tested.0)

  grows : can_grow p ≡ true
  grows = and_right (is_last p w) (can_grow p) (and_right (leads_here p w) (is_last p w && can_grow p) tested.0)

  limit_is : p.limit ≡ k.options.colours
  limit_is = (its_partition k sound n s here).1

  -- ITS CELL

  pub found : (c : Cell) × (cell_under p w ≡ Some c)
  found = has_cell (cell_under p w) (and_right (server_of w == p.server) (is_some (cell_under p w)) (and_left ((server_of w == p.server) && is_some (cell_under p w)) (nat_lt (colour_of w) p.limit) leads))

  abbrev c : Cell
  c = found.0

  cell_at : slice_get p.cells (address_of w) ≡ Some (Some c)
  cell_at = looked p w c (ap (λ e. if e then cell_under p w else None) leads ∙ found.1)

  abbrev old : Thing
  old = lies n (address_of w) c

  old_among : Among old (things_of k)
  old_among = of_server old n k.servers s here (of_partition old s (at_lies n p (address_of w) c found.1))

  object : c.object ≡ b.object
  object =
      let it = its.there in
      let same = only_one (states (n, address_of w)) old (lies its.server its.address it.cell) (things_of k) (one_state k sound (n, address_of w)) old_among it.among (spot_weighs n (address_of w) c n (address_of w) refl refl)
      (spot_weighs its.server its.address it.cell n (address_of w) (sym its.leads.server ∙ numbers.tells (server_of w) n mine) (sym its.leads.address)) in
      ap (λ (x : Cell). x.object) (same_cell_there n (address_of w) its.server its.address c it.cell same) ∙ it.object

  -- THE NEW ADDRESS

  same_free : q.free ≡ p.free
  same_free = ap (λ e. if e then (address_of w, colour_of w + 1) ∷ p.free else p.free) (not_less (colour_of w + 1) p.limit last)

  same_next : next_place q ≡ next_place p
  same_next = ap₂ picked same_free (length_set p.cells (address_of w) None)

  word_is : nw.word ≡ new_word p
  word_is = ap (λ (x : Given). x.word) (sym tested.1) ∙ ap (λ (x : ℕ × ℕ). word_of x.1 p.server x.0) same_next

  next : NewWord k sound few s here
  next = new_word_is k sound few s here grows

  server : server_of nw.word ≡ n
  server = ap server_of word_is ∙ next.server

  address : address_of nw.word ≡ (next_place q).0
  address = ap address_of word_is ∙ next.address ∙ ap (λ (x : ℕ × ℕ). x.0) (sym same_next)

  colour : colour_of nw.word ≡ (next_place q).1
  colour = ap colour_of word_is ∙ next.colour ∙ ap (λ (x : ℕ × ℕ). x.1) (sym same_next)

  -- WHAT GOES AND COMES

  abbrev pub gone : List Thing
  gone = lies s.rest.number (address_of b.word) found.0 ∷ taken_place s.rest.number (freed s.rest.partition b.word).free

  abbrev pub come : List Thing
  come = left_by s.rest.number s.rest.partition.limit b.word ∷ lies s.rest.number (next_place (freed s.rest.partition b.word)).0 found.0 ∷ []

  vacancy : (pair : ℕ × ℕ) (rest : List (ℕ × ℕ)) → q.free ≡ pair ∷ rest → slice_get q.cells pair.0 ≡ Some None
  vacancy pair rest e = still_none p.cells (address_of w) pair.0 (vacant_there k sound s here pair rest (sym same_free ∙ e))

  abbrev pub acts : List Act
  acts = act.Renew b.object b.word nw.word ∷ []

  pub turns : WorkTurns (begin_work s.rest) gone come acts nw.work
  turns = subst (λ (x : Given). WorkTurns (begin_work s.rest) gone come (act.Renew b.object b.word x.word ∷ []) x.work) tested.1 (subst (λ (x : PartitionState). WorkTurns (begin_work s.rest) gone come (act.Renew b.object w (new_word q) ∷ []) (note (act.Renew b.object w (new_word q)) (with_partition x (begin_work s.rest)))) (sym again) (record {
    number = refl;
    noted = refl;
    labels = refl;
    things = λ f h.
        let r : Rest = s.rest in
        let free : is_free (address_of w) p.free ≡ false = lies_alone n p (in_place n s.events r (others k sound n s here) (placed_here k sound n s here)) (address_of w) c cell_at in
        let u = rest_with n 0 r q (frees n p w c cell_at free) in
        let v = rest_with n 0 (record r { partition = q }) (made q c) (makes n q c q.free vacancy) in
        omega (
          arith,
          u.before f,
          u.after f,
          v.before f,
          v.after f,
          h.counted n (length p.cells) p.retired r.started r.mutexes.made 0,
          h.counted n (length q.cells) q.retired r.started r.mutexes.made 0,
          h.counted n (length (made q c).cells) (made q c).retired r.started r.mutexes.made 0,
        );
  }))
    where
      again : renewed p w ≡ made q c
      again = ap (made_again q) found.1

  -- its old address is retired
  left_none : (f : Thing → ℕ) → ((r a m : ℕ) → f (vacant r a m) ≡ 0) → ((r a : ℕ) → f (retired r a) ≡ 0) → f (left_by n p.limit w) ≡ 0
  left_none f v r = by (nat_lt (colour_of w + 1) p.limit)
    where
      by : (e : Bool) → f (if e then vacant n (address_of w) (colour_of w + 1) else retired n (address_of w)) ≡ 0
      by true = v n (address_of w) (colour_of w + 1)
      by false = r n (address_of w)

  pub moved : Moved gone come
  moved = record {
    even = λ f v r l. omega (arith, taken_none n q.free f v, left_none f v r, l n (address_of w) c, l n (next_place q).0 c);
    objects = λ o g. omega (arith, taken_none n q.free (λ x. told g (placed_in o x)) (λ r a m. refl), left_none (λ x. told g (placed_in o x)) (λ r a m. refl) (λ r a. refl));
  }

  -- THE ACT

  pub allowed : (c0 : Coloured) → StandsColoured k c0 → (e : EntryView) → e.server ≡ n → Allowed k.options e c0 (act.Renew b.object b.word nw.word) (recoloured ((b.object, nw.word) ∷ []) (answers_of (sight k)))
  allowed c0 is_coloured e own =
      renew_allowed k.options e c0 (answers_of (sight k)) [] b.object b.word nw.word (none_given c0 (answers_of (sight k)) (fits (sight k) c0 is_coloured)) (is_named k coherent b its) (ap₂ (λ i j. i == j) (sym its.leads.server) own ∙ mine)
      (ap (λ x. colour_of w + 1 == x) (sym limit_is) ∙ last) (ap₂ (λ i j. i == j) server own ∙ numbers.itself n) (ap (λ x. nat_lt (colour_of x) k.options.colours) word_is ∙ next.low) (ap (issued (sight k)) word_is ∙ next.fresh)

  -- WORDS THAT ARE ISSUED

  module _ (y z : Thing) (d : Cluster) (f : Follows k d (y ∷ gone) (z ∷ come)) (bare : (h : ObjNo → ℕ) (i v : ℕ) → issued_by h i v y ≡ issued_by h i v z) (words : Rewords k d ((b.object, nw.word) ∷ []) before) where
    abbrev after : ObjNo → ℕ
    after = words.after.word

    abbrev colours : ℕ
    colours = k.options.colours

    its_word : after b.object ≡ nw.word
    its_word = words.word b.object ∙ ap (λ e. if e then nw.word else before.word b.object) (itself b.object b.object refl)

    -- each other object has the word that it had
    each : (v : ℕ) (x : Thing) → cells b.object x ≡ 0 → issued_by after colours v x ≡ issued_by before.word colours v x
    each v (lies r a e) none = ap (λ i. one (is_spot r a v && colour_up_to (Some i) v)) (words.word e.object ∙ by (same_object e.object b.object) refl)
      where
        by : (j : Bool) → same_object e.object b.object ≡ j → (if j then nw.word else before.word e.object) ≡ before.word e.object
        by true g = absurd (let heavy : one (same_object e.object b.object) ≡ 1 = ap one g in omega (arith, none, heavy))
        by false g = refl
    each v _ none = refl

    swapped : (v : ℕ) → tot (issued_by after colours v) (things_of k) + issued_by before.word colours v old ≡ tot (issued_by before.word colours v) (things_of k) + issued_by after colours v old
    swapped v =
        let heavy : one (same_object c.object b.object) ≡ 1 = ap one (itself c.object b.object object) in
        swap_one (cells b.object) (issued_by after colours v) (issued_by before.word colours v) (each v) (things_of k) (sound.one_home.home_of_each b.object) old old_among (omega (arith, heavy))

    -- all words of the old address were issued
    old_issued : (v : ℕ) → issued_by before.word colours v old ≡ issued_by after colours v (left_by n p.limit w)
    old_issued v =
        ap (λ x. one (is_spot n (address_of w) v && x)) (ap (λ x. nat_le (colour_of v) (colour_of x)) (ap before.word object ∙ sym its.word) ∙ up_to (colour_of v) (colour_of w))
        ∙ ap (λ x. one (is_spot n (address_of w) v && nat_lt (colour_of v) x)) (numbers.tells (colour_of w + 1) p.limit last ∙ limit_is)
        ∙ sym (ap (λ e. issued_by after colours v (if e then vacant n (address_of w) (colour_of w + 1) else retired n (address_of w))) (not_less (colour_of w + 1) p.limit last))

    new_issued : (v : ℕ) → issued_by after colours v (lies n (next_place q).0 c) ≡ one (is_spot n (next_place q).0 v && nat_le (colour_of v) (colour_of nw.word))
    new_issued v = ap (λ x. one (is_spot n (next_place q).0 v && colour_up_to (Some x) v)) (ap after object ∙ its_word)

    taken : (v : ℕ) → tot (issued_by after colours v) (taken_place n q.free) ≡ one (is_spot n (next_place q).0 v && nat_lt (colour_of v) (colour_of nw.word))
    taken v = taken_issued n q after colours v ∙ ap (λ j. one (is_spot n (next_place q).0 v && nat_lt (colour_of v) j)) (sym colour)

    -- the new word is one more
    pub one_more : (v : ℕ) → is_in v (given_words ((b.object, nw.word) ∷ [])) || issued (sight k) v ≡ issued (sight d) v
    one_more v =
        ap₂ (λ i j. i || j) (or_false (nw.word == v)) (issued_told k before v) ∙ sym (some_or (nw.word == v) (tot (issued_by before.word colours v) (things_of k))) ∙ ap some (sym count) ∙ sym (issued_told d words.after v)
      where
        same_limit : tot (issued_by after d.options.colours v) (things_of d) ≡ tot (issued_by after colours v) (things_of d)
        same_limit = ap (λ x. tot (issued_by after x.colours v) (things_of d)) f.options

        count : tot (issued_by after d.options.colours v) (things_of d) ≡ one (nw.word == v) + tot (issued_by before.word colours v) (things_of k)
        count =
            omega (arith, same_limit, f.things (issued_by after colours v) (issued_seen after colours v), bare after colours v, swapped v, old_issued v, new_issued v, taken v, up_to_word n (next_place q).0 nw.word v server address)
