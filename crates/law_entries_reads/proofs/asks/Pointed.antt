-- What the coloured heap has of the object of a pointer that a thread follows.
use Rattle.std.proofs.Common.{◌≡◌, ◌⊎◌, inl, inr, ℕ, ◌≤◌, ◌==◌, ◌||◌, Bool, true, false, if◌then◌else◌, [], ◌∷◌, Some, option_map, refl, sym, ap, ap₂, ◌∙◌, arith}
use Rattle.law_entries_reads.specs.Below.law_copies_kept.Below.fr_base.Lists.{is_in}
use Rattle.law_entries_reads.specs.Below.law_copies_kept.Below.fr_base.Names.{same_object}
use Rattle.law_entries_reads.specs.Below.law_copies_kept.Below.fr_base.declared.name.ObjNo.{ObjNo}
use Rattle.law_entries_reads.specs.Below.law_copies_kept.Below.global_addr.Words.{server_of, next_word}
use Rattle.law_entries_reads.specs.Below.law_copies_kept.Below.heap_partition.Plain.{plain_of}
use Rattle.law_entries_reads.specs.Below.law_copies_kept.Below.heap_partition.declared.value.BoxPtr.{BoxPtr}
use Rattle.law_entries_reads.specs.Below.law_copies_kept.Below.heap_partition.declared.value.Cell.{Cell}
use Rattle.law_entries_reads.specs.Below.law_copies_kept.Below.thread_state.declared.value.Value.{Value}
use Rattle.law_entries_reads.specs.Below.law_copies_kept.Below.server_model.Servers.{Cluster}
use Rattle.law_entries_reads.specs.Below.law_copies_kept.Below.server_model.Places.{pointer_of}
use Rattle.law_entries_reads.specs.Below.law_entries_variables.Below.coloured_heap.Heap.{Lies, Living, lies_at}
use Rattle.law_entries_reads.proofs.Below.law_entries_variables.Below.coloured_heap.ShownNames.{number_itself}
use Rattle.law_entries_reads.specs.Below.law_copies_kept.Below.coherent_memory.Names.{tot, one, some}
use Rattle.law_entries_reads.specs.Below.law_copies_kept.Below.coherent_memory.Things.{Location, Thing, lies, things_of}
use Rattle.law_entries_reads.specs.Below.law_copies_kept.Below.coherent_memory.Follow.{value_in, leads}
use Rattle.law_entries_reads.specs.Below.law_copies_kept.Below.coherent_memory.Sight.{sight, issued, word}
use Rattle.law_entries_reads.specs.Below.law_copies_kept.Below.coherent_memory.Weights.{cells}
use Rattle.law_entries_reads.specs.Below.law_copies_kept.Below.coherent_memory.Words.{IsStale, HasWords, LeadsTo}
use Rattle.law_entries_reads.specs.Below.law_copies_kept.Below.coherent_memory.OneHeap.{first_shown}
use Rattle.law_entries_reads.specs.Below.law_copies_kept.Below.coherent_memory.Colours.{living_of}
use Rattle.law_entries_reads.proofs.Below.law_copies_kept.Below.coherent_memory.Words.{named, itself}
use Rattle.law_entries_reads.specs.Below.law_copies_kept.Below.coherent_types.ClusterTypes.{IsCoherent}
use Rattle.law_entries_reads.specs.Below.law_copies_kept.Below.law_words_paths.words.Reworded.{LiesThere}
use Rattle.law_entries_reads.proofs.Below.law_copies_kept.Below.law_words_paths.words.NewWord.{is_new}
use Rattle.law_copies_kept.specs.Below.law_words_kept.reads.Reading.{LiesUnder}
use Rattle.law_copies_kept.proofs.Below.law_words_kept.reads.Homes.{pointer_leads, fresh_word}
use Rattle.law_copies_kept.proofs.Below.law_words_kept.reads.Lookups.{one_state}
use Rattle.law_entries_reads.proofs.Below.law_copies_kept.Below.law_heap_still.events.Told.{told}
use Rattle.law_entries_reads.proofs.Below.law_entries_variables.deliveries.Answers.{answers_of}
use Rattle.law_entries_reads.proofs.Below.law_entries_variables.deliveries.Shown.{if_some, placed_in, same_placed, placings, dropped_by, as_living, living_is}
use Rattle.law_entries_reads.proofs.Below.law_entries_variables.deliveries.Live.{word_told, placed_cells, issued_by, issued_told}
use Rattle.law_entries_reads.proofs.served.Kept.{led_kept}
use Rattle.law_entries_reads.proofs.served.Lying.{found_there}
use Rattle.law_entries_reads.proofs.asks.Recoloured.{word_after, given_words, reworded_by, recoloured, Named}
use Rattle.law_entries_reads.proofs.asks.NextColour.{weighs, one_word_more}

module _ (k : Cluster) (coherent : IsCoherent k) where
  abbrev before : HasWords (sight k)
  before = coherent.sound.words.have_words

  -- a pointer that isn't stale, and whose object lies where its word leads
  pub record Pointed (p : BoxPtr) : Type 0 where
    pub server : ℕ
    pub address : ℕ
    pub there : LiesThere k server address p.object
    pub leads : LeadsTo server address p.word
    pub word : p.word ≡ before.word p.object
    -- the object isn't given up
    pub kept : tot (dropped_by p.object) (things_of k) ≡ 0

  pub pointed : (t : ℕ) (l : Location) (v : Value) (p : BoxPtr) → value_in (sight k).ground l ≡ Some v → pointer_of v ≡ Some p → (IsStale (sight k) (Some l) → ⊥) → LiesUnder k p → Pointed p
  pointed t l v p stood points fresh under = record {
    server = under.server;
    address = under.address;
    there = under.there;
    leads = under.leads;
    word = fresh_word k before l v p stood points fresh;
    kept = led_kept k coherent p.object (λ none. none t l (ap (leads t) stood ∙ pointer_leads t v p points));
  }

  module _ (p : BoxPtr) (q : Pointed p) where
    abbrev o : ObjNo
    o = p.object

    abbrev cell : Cell
    cell = q.there.cell

    abbrev thing : Thing
    thing = lies q.server q.address cell

    its : same_object cell.object o ≡ true
    its = itself cell.object o q.there.object

    has_cell : 1 ≤ tot (cells o) (things_of k)
    has_cell = let mine : one (same_object cell.object o) ≡ 1 = ap one its in omega (arith, mine, weighs (cells o) thing (things_of k) q.there.among)

    placed : first_shown (placed_in o) (things_of k) ≡ Some (plain_of cell.value, Lies q.server)
    placed =
        found_there same_placed placings (placed_in o) (plain_of cell.value, Lies q.server) (things_of k) (omega (arith, placed_cells o k, coherent.sound.one_home.home_of_each o)) (λ g.
        let shows : told g (placed_in o thing) ≡ g (plain_of cell.value, Lies q.server) = ap (λ b. told g (if_some b (plain_of cell.value, Lies q.server))) its in
        omega (arith, shows, weighs (λ x. told g (placed_in o x)) thing (things_of k) q.there.among))

    abbrev living : Living
    living = as_living o (Some p.word) false (plain_of cell.value, Lies q.server)

    pub lives : living_of (sight k) o ≡ Some living
    lives =
        living_is (sight k) o ∙ ap (option_map (as_living o (word (sight k) o) (some (tot (dropped_by o) (things_of k))))) placed
        ∙ ap₂ (λ w n. Some (as_living o w (some n) (plain_of cell.value, Lies q.server))) (word_told k before o has_cell ∙ ap Some (sym q.word)) q.kept

    -- it is named by its word, and lies there
    abbrev pub is_named : Named (recoloured [] (answers_of (sight k))) o p.word
    is_named = record { living = reworded_by [] living; there = ap (option_map (reworded_by [])) lives; word = number_itself p.word; kept = refl }

    -- and by another one that it gets
    abbrev pub is_renamed : (w : ℕ) → Named (recoloured ((o, w) ∷ []) (answers_of (sight k))) o w
    is_renamed w = record {
      living = reworded_by ((o, w) ∷ []) living;
      there = ap (option_map (reworded_by ((o, w) ∷ []))) lives;
      word = ap (λ b. (if b then w else p.word) == w) (itself o o refl) ∙ number_itself w;
      kept = refl;
    }

    -- it lies at the server of its word
    pub away : (r n : ℕ) → r ≡ n → (server_of p.word == r) ≡ false → lies_at n (Lies q.server) ≡ false
    away r n same e = ap₂ (λ a b. a == b) (sym q.leads.server) (sym same) ∙ e

    -- THE NEXT COLOUR

    pub next_unissued : issued (sight k) (next_word p.word) ≡ false
    next_unissued = ap (λ v. issued (sight k) (next_word v)) q.word ∙ is_new k before (one_state k coherent.sound) q.server q.address o q.there

    or_false : (b : Bool) → (b || false) ≡ b
    or_false true = refl
    or_false false = refl

    -- the words that are issued once the object has it
    pub next_issued : (u : ObjNo → ℕ) → ((x : ObjNo) → u x ≡ word_after ((o, next_word p.word) ∷ []) x (before.word x)) → (v : ℕ)
        → is_in v (given_words ((o, next_word p.word) ∷ [])) || issued (sight k) v ≡ some (tot (issued_by u k.options.colours v) (things_of k))
    next_issued u words v =
        ap₂ (λ a b. a || b) (or_false (next_word p.word == v) ∙ ap (λ w. next_word w == v) q.word) (issued_told k before v)
        ∙ one_word_more (things_of k) before.word u o k.options.colours (λ r a c m. before.home r a c m) q.server q.address cell q.there.among q.there.object next others v
      where
        next : u o ≡ next_word (before.word o)
        next = words o ∙ ap (λ b. if b then next_word p.word else before.word o) (itself o o refl) ∙ ap next_word q.word

        others : (x : ObjNo) → (x ≡ o) ⊎ (u x ≡ before.word x)
        others x = by (same_object x o) refl
          where
            by : (b : Bool) → same_object x o ≡ b → (x ≡ o) ⊎ (u x ≡ before.word x)
            by true e = inl (named x o e)
            by false e = inr (words x ∙ ap (λ b. if b then next_word p.word else before.word x) e)
