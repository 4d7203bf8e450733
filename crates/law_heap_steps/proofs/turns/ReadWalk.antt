-- Following a place for reading: the spot that a server comes to shows what stands where the place leads in the cluster, and its labels are the loads on the
-- way. A dirty reference to an object elsewhere is cleaned, and then its object is asked for.
use Rattle.std.proofs.Common.{◌≡◌, ◌<◌, ◌≤◌, ℕ, zero, suc, ◌+◌, ◌==◌, nat_lt, Bool, true, false, if◌then◌else◌, List, [], ◌∷◌, ◌++◌, length, map, Option, Some, None, is_some, option_map, refl, sym, ap, ap₂, subst, ◌∙◌, arith}
use Rattle.std.specs.Prelude.{slice_get, slice_set}
use Rattle.std.specs.Bool.{⊤}
use Rattle.std.proofs.lemmas.Option.{slice_get-map}
use Rattle.std.proofs.lemmas.Bool.{eqb-true}
use Rattle.law_words_kept.proofs.Below.fr_typing.PlaceLemmas.{eq_cases}
use Rattle.law_words_kept.specs.Below.fr_base.Lists.{is_in}
use Rattle.law_words_kept.specs.Below.fr_base.declared.label.Label.{Label}
use Rattle.law_words_kept.specs.Below.fr_base.declared.name.ObjNo.{ObjNo}
use Rattle.law_words_kept.specs.Below.fr_base.declared.place.Lval.{Lval}
use Rattle.law_words_kept.specs.Below.global_addr.Words.{colour_of, server_of, next_word}
use Rattle.law_words_kept.specs.Below.heap_partition.declared.value.BoxPtr.{BoxPtr}
use Rattle.law_words_kept.specs.Below.heap_partition.declared.value.Cell.{Cell}
use Rattle.law_words_kept.specs.Below.heap_partition.declared.value.Owned.TheVariants as owned
use Rattle.law_words_kept.specs.Below.read_cache.Cache.{Copy, copy_of, cell_in, hit, is_cached, with_users, users, can_pin, pin}
use Rattle.law_words_kept.specs.Below.mut_borrow.Refs.{cleaned_answer}
use Rattle.law_words_kept.specs.Below.mut_borrow.declared.shared.SharedRef.{SharedRef}
use Rattle.law_words_kept.specs.Below.mut_borrow.declared.mutable.MutRef.{MutRef}
use Rattle.law_words_kept.specs.Below.mut_borrow.declared.mutable.Cleaned.TheVariants as cleaned
use Rattle.law_words_kept.specs.Below.migration.Packing.{unpinned}
use Rattle.law_words_kept.specs.Below.place_walk.declared.hop.Hop.{Hop}
use Rattle.law_words_kept.specs.Below.place_walk.declared.hop.Hop.TheVariants as hop
use Rattle.law_words_kept.specs.Below.place_walk.Hops.{by_copy, clean_hop, dirty_hop, read_hop}
use Rattle.law_words_kept.specs.Below.thread_state.View.{ThreadState}
use Rattle.law_words_kept.specs.Below.thread_state.declared.value.Value.{Value}
use Rattle.law_words_kept.specs.Below.thread_state.declared.value.Value.TheVariants as value
use Rattle.law_words_kept.specs.Below.journal.declared.act.Act.TheVariants as act
use Rattle.law_words_kept.specs.Below.server_model.Servers.{Rest}
use Rattle.law_words_kept.specs.Below.server_model.Work.{Hand, note, with_cache, working, with_slots, look, then_some, used_once}
use Rattle.law_words_kept.specs.Below.server_model.NewWords.{issue_tint, issue_renewal}
use Rattle.law_words_kept.specs.Below.server_model.Places.{Spot, in_slot, on_top, in_cell, in_copy, nowhere, cell_at, value_in as cell_value, value_at, load_of, load_at, put_at, pointer_of, took, with_word, put_word}
use Rattle.law_words_kept.specs.Below.server_model.Prepare.{Prepared, ready, requested, nothing, and_then, ready_at, ask_copy, ask_object, request_by, box_of, clean_last, cleaned_by, clean, clean_value, pinned_once, use_copy, hopped, local, hit_by, read_by, read_value, read_clean, tinted_first, read_star, read_stars}
use Rattle.law_words_kept.specs.Below.server_model.Events.{begin_work}
use Rattle.law_words_kept.specs.Below.coherent_memory.Things.{Location, at_slot, in_cell as at_cell}
use Rattle.law_words_kept.specs.Below.coherent_memory.Follow.{Ground, cell_of, value_of, value_in, value_behind, leads, locate}
use Rattle.law_words_kept.specs.Below.law_counts_sums.Laws.{Gives}
use Rattle.law_words_kept.proofs.Below.law_counts_sums.Known.{next_server}
use Rattle.law_words_kept.proofs.Below.law_counts_sums.Results.{test_gives}
use Rattle.law_words_kept.proofs.reads.Homes.{pointer_leads}

-- THE LOADS ON THE WAY

-- of what stands at a location
abbrev pub loads_of : Ground → Location → List Label
loads_of g (at_cell o) = load_of (cell_of g.cells o)
loads_of g l = []

abbrev pub loads_behind : Ground → Option Location → List Label
loads_behind g None = []
loads_behind g (Some l) = loads_of g l

-- of the pointers that the first so many stars of a place follow
abbrev pub passed_loads : Ground → ℕ → ℕ → ℕ → List Label
passed_loads g t slot zero = []
passed_loads g t slot (suc d) = passed_loads g t slot d ++ loads_behind g (locate g t slot d)

-- VALUES BUT FOR PINS

pub get_unpinned : (vs : List Value) (i : ℕ) → slice_get (map unpinned vs) i ≡ option_map unpinned (slice_get vs i)
get_unpinned vs i = slice_get-map unpinned vs i

-- where a value stands, one stands that is the same but for pins
pub seen_value : (o : Option Value) (v : Value) → Some (unpinned v) ≡ option_map unpinned o → (u : Value) × (o ≡ Some u) × (unpinned v ≡ unpinned u)
seen_value None v e = absurd (cc e)
seen_value (Some u) v e = (u, refl, some_is e)
  where
    some_is : {a b : Value} → Some a ≡ Some b → a ≡ b
    some_is q = cc

pointer_unpinned : (v : Value) → pointer_of (unpinned v) ≡ pointer_of v
pointer_unpinned value.Gone = refl
pointer_unpinned (value.Own o) = refl
pointer_unpinned (value.SharedSlot i) = refl
pointer_unpinned (value.MutSlot i) = refl
pointer_unpinned (value.Shared r) = refl
pointer_unpinned (value.Mut r) = refl
pointer_unpinned (value.Held m) = refl

pub same_pointer : (v u : Value) → unpinned v ≡ unpinned u → pointer_of u ≡ pointer_of v
same_pointer v u e = sym (pointer_unpinned u) ∙ ap pointer_of (sym e) ∙ pointer_unpinned v

leads_unpinned : (t : ℕ) (v : Value) → leads t (Some (unpinned v)) ≡ leads t (Some v)
leads_unpinned t value.Gone = refl
leads_unpinned t (value.Own o) = refl
leads_unpinned t (value.SharedSlot i) = refl
leads_unpinned t (value.MutSlot i) = refl
leads_unpinned t (value.Shared r) = refl
leads_unpinned t (value.Mut r) = refl
leads_unpinned t (value.Held m) = refl

pub same_leads : (t : ℕ) (v u : Value) → unpinned v ≡ unpinned u → leads t (Some u) ≡ leads t (Some v)
same_leads t v u e = sym (leads_unpinned t u) ∙ ap (λ z. leads t (Some z)) (sym e) ∙ leads_unpinned t v

mut_unpinned : (u : Value) (q : MutRef) → unpinned u ≡ value.Mut q → u ≡ value.Mut q
mut_unpinned (value.Mut r) q e = e
mut_unpinned (value.Own o) q e = absurd (cc e)
mut_unpinned value.Gone q e = absurd (cc e)
mut_unpinned (value.SharedSlot i) q e = absurd (cc e)
mut_unpinned (value.MutSlot i) q e = absurd (cc e)
mut_unpinned (value.Shared r) q e = absurd (cc e)
mut_unpinned (value.Held m) q e = absurd (cc e)

set_unpinned : (vs : List Value) (i : ℕ) (v new : Value) → slice_get vs i ≡ Some v → unpinned new ≡ unpinned v → map unpinned (slice_set vs i new) ≡ map unpinned vs
set_unpinned [] i v new e p = cc
set_unpinned (x ∷ xs) zero v new e p = let same : v ≡ x = cc in ap (λ (y : Value). y ∷ map unpinned xs) (p ∙ ap unpinned same)
set_unpinned (x ∷ xs) (suc i) v new e p = ap (λ ys. unpinned x ∷ ys) (set_unpinned xs i v new e p)

pub set_there : (vs : List Value) (i : ℕ) (v new : Value) → slice_get vs i ≡ Some v → slice_get (slice_set vs i new) i ≡ Some new
set_there [] i v new e = absurd (cc e)
set_there (x ∷ xs) zero v new e = refl
set_there (x ∷ xs) (suc i) v new e = set_there xs i v new e

-- COPIES

hit_users : (cs : List Copy) (u n z : ℕ) → hit (with_users cs u n) z ≡ hit cs z
hit_users [] u n z = refl
hit_users (c ∷ cs) u n z =
    eq_cases (λ b. hit (if b then record c { users = n } ∷ cs else c ∷ with_users cs u n) z ≡ hit (c ∷ cs) z) c.word u
    (λ _. by (c.word == z)) (λ _. later (c.word == z) (hit_users cs u n z))
  where
    by : (b : Bool) → cell_in (if b then Some (record c { users = n }) else copy_of cs z) ≡ cell_in (if b then Some c else copy_of cs z)
    by true = refl
    by false = refl

    later : (b : Bool) → hit (with_users cs u n) z ≡ hit cs z → cell_in (if b then Some c else copy_of (with_users cs u n) z) ≡ cell_in (if b then Some c else copy_of cs z)
    later true e = refl
    later false e = e

cached_hit : (cs : List Copy) (w : ℕ) → is_cached cs w ≡ is_some (hit cs w)
cached_hit cs w = by (copy_of cs w)
  where
    by : (o : Option Copy) → is_some o ≡ is_some (cell_in o)
    by None = refl
    by (Some c) = refl

has_some : {A : Type 0} (o : Option A) → is_some o ≡ true → (a : A) × (o ≡ Some a)
has_some None e = absurd (cc e)
has_some (Some a) e = (a, refl)

-- loads change no value
pub value_loaded : (s : Spot) (h : Hand) → value_at (load_at s h) s ≡ value_at h s
value_loaded (in_slot i) h = refl
value_loaded on_top h = refl
value_loaded (in_cell w through) h = refl
value_loaded (in_copy w) h = refl
value_loaded nowhere h = refl

-- WHAT IS FOUND

-- what a server finds for the thread that reads the place there
pub record Finds (g : Ground) (x : ThreadState) (r : Rest) (w : Lval) (n : ℕ) : Type 0 where
  pub slots : (i : ℕ) → value_in g (at_slot x.number i) ≡ slice_get x.slots i
  pub direct : (d : ℕ) (l : Location) (v : Value) (p : BoxPtr) → d < n → locate g x.number w.slot d ≡ Some l → value_in g l ≡ Some v → pointer_of v ≡ Some p
      → server_of p.word ≡ r.number → (b : Cell) → look r.partition p.word ≡ Some b → cell_of g.cells p.object ≡ Some b
  pub copied : (d : ℕ) (l : Location) (v : Value) (p : BoxPtr) → d < n → locate g x.number w.slot d ≡ Some l → value_in g l ≡ Some v → pointer_of v ≡ Some p
      → ((q : MutRef) → v ≡ value.Mut q → q.dirty ≡ false) → (b : Cell) → hit r.cache p.word ≡ Some b → cell_of g.cells p.object ≡ Some b
  pub uncached : (d : ℕ) (l : Location) (v : Value) (p : BoxPtr) → d < n → locate g x.number w.slot d ≡ Some l → value_in g l ≡ Some v → pointer_of v ≡ Some p → is_cached r.cache (next_word p.word) ≡ false

module _ (g : Ground) (x : ThreadState) (r : Rest) (w : Lval) (n : ℕ) (finds : Finds g x r w n) where
  abbrev t : ℕ
  t = x.number

  -- the hand is as it was but for pins, walks, acts and labels
  pub record Like (h : Hand) : Type 0 where
    pub number : h.work.rest.number ≡ r.number
    pub partition : h.work.rest.partition ≡ r.partition
    pub slots : map unpinned h.thread.slots ≡ map unpinned x.slots
    pub hits : (u : ℕ) → hit h.work.rest.cache u ≡ hit r.cache u

  -- so many stars lead the hand to the spot, which shows what stands where they lead in the cluster
  pub record At (d : ℕ) (h : Hand) (s : Spot) : Type 0 where
    pub like : Like h
    pub location : Location
    pub located : locate g t w.slot d ≡ Some location
    pub seen : option_map unpinned (value_at h s) ≡ option_map unpinned (value_in g location)
    pub loads : load_of (cell_at h s) ≡ loads_of g location
    pub labels : h.work.labels ≡ passed_loads g t w.slot d
    pub off_top : s ≡ on_top → ⊥

  -- where something stands at the spot; where nothing does, no step is done
  abbrev pub Comes : ℕ → Prepared → Type 0
  Comes d (ready h s) = (v : Value) → value_at h s ≡ Some v → At d h s
  Comes d (requested h) = ⊤
  Comes d nothing = ⊤

  ready_comes : (d : ℕ) (s : Spot) (o : Option Hand) → Gives (λ h. At d h s) o → Comes d (ready_at s o)
  ready_comes d s None e = tt
  ready_comes d s (Some h) e = λ v q. e

  slot_off : (i : ℕ) → in_slot i ≡ on_top → ⊥
  slot_off i e = cc e

  slot_seen : (h : Hand) → Like h → (i : ℕ) → option_map unpinned (slice_get h.thread.slots i) ≡ option_map unpinned (value_in g (at_slot t i))
  slot_seen h a i = sym (get_unpinned h.thread.slots i) ∙ ap (λ l. slice_get l i) a.slots ∙ get_unpinned x.slots i ∙ ap (option_map unpinned) (sym (finds.slots i))

  -- to a slot
  to_slot : (d : ℕ) (h : Hand) (i : ℕ) → Like h → locate g t w.slot d ≡ Some (at_slot t i) → h.work.labels ≡ passed_loads g t w.slot d → At d h (in_slot i)
  to_slot d h i a e ls = record { like = a; location = at_slot t i; located = e; seen = slot_seen h a i; loads = refl; labels = ls; off_top = slot_off i }

  -- to a cell that is the object's
  to_cell : (d : ℕ) (h : Hand) (s : Spot) (o : ObjNo) (b : Cell) → Like h → locate g t w.slot d ≡ Some (at_cell o) → h.work.labels ≡ passed_loads g t w.slot d → value_at h s ≡ cell_value (cell_at h s) → cell_at h s ≡ Some b → cell_of g.cells o ≡ Some b → (s ≡ on_top → ⊥)
      → At d h s
  to_cell d h s o b a e ls at is found off = record {
    like = a;
    location = at_cell o;
    located = e;
    seen = ap (option_map unpinned) (at ∙ ap cell_value is) ∙ ap (λ c. option_map unpinned (value_of c)) (sym found);
    loads = ap load_of (is ∙ sym found);
    labels = ls;
    off_top = off;
  }

  begins : At 0 (record { work = begin_work r; thread = x }) (in_slot w.slot)
  begins = to_slot 0 (record { work = begin_work r; thread = x }) w.slot (record { number = refl; partition = refl; slots = refl; hits = λ u. refl }) refl refl

  -- the pointer's object may be seen elsewhere where nothing of it is looked up
  no_top_copy : (u : ℕ) → in_copy u ≡ on_top → ⊥
  no_top_copy u e = cc e

  no_top_cell : (u : ℕ) (q : Option ℕ) → in_cell u q ≡ on_top → ⊥
  no_top_cell u q e = cc e

  -- ONE STAR

  module _ (d : ℕ) (lt : d < n) (h : Hand) (s : Spot) (at : At d h s) (v : Value) (there : value_at h s ≡ Some v) where
    abbrev h1 : Hand
    h1 = load_at s h

    abbrev num : ℕ
    num = h.work.rest.number

    abbrev cs : List Copy
    cs = h.work.rest.cache

    like1 : Like h1
    like1 = record { number = at.like.number; partition = at.like.partition; slots = at.like.slots; hits = at.like.hits }

    labels1 : h1.work.labels ≡ passed_loads g t w.slot (suc d)
    labels1 = ap₂ (λ a b. a ++ b) at.labels at.loads ∙ ap (λ o. passed_loads g t w.slot d ++ loads_behind g o) (sym at.located)

    -- what stands there in the cluster
    it : (u : Value) × (value_in g at.location ≡ Some u) × (unpinned v ≡ unpinned u)
    it = seen_value (value_in g at.location) v (sym (ap (option_map unpinned) there) ∙ at.seen)

    next : locate g t w.slot (suc d) ≡ leads t (Some v)
    next = ap (λ o. leads t (value_behind g o)) at.located ∙ ap (leads t) it.1 ∙ same_leads t v it.0 it.2

    abbrev go : Hand → Spot → Prepared
    go h2 s2 = read_value s2 (value_at h2 s2) h2

    still_there : value_at h1 s ≡ Some v
    still_there = value_loaded s h ∙ there

    abbrev NotTint : Option Hop → Type 0
    NotTint o = (z : ℕ) → o ≡ Some (hop.NeedTint z) → ⊥

    untinted : (o : Option Hop) → NotTint o → read_clean s v o h1 ≡ ready h1 s
    untinted (Some (hop.NeedTint z)) un = absurd (un z refl)
    untinted (Some (hop.Slot i)) un = refl
    untinted (Some (hop.Direct z)) un = refl
    untinted (Some (hop.Hit z)) un = refl
    untinted (Some (hop.NeedCopy z)) un = refl
    untinted (Some (hop.NeedMove z)) un = refl
    untinted (Some (hop.AtCell z)) un = refl
    untinted None un = refl

    -- by the hop
    by_hop : (o : Option Hop) → read_hop num cs v ≡ o → NotTint o → Comes (suc d) (read_by s v o h1) → Comes (suc d) (read_star h s)
    by_hop o q un c =
        subst (λ z. Comes (suc d) (and_then go (tinted_first s z h1))) (sym there)
        (subst (λ z. Comes (suc d) (and_then go (read_clean s v z h1))) (sym q)
        (subst (λ z. Comes (suc d) (and_then go z)) (sym (untinted o un))
        (subst (λ z. Comes (suc d) (read_value s z h1)) (sym still_there) (subst (λ z. Comes (suc d) (read_by s v z h1)) (sym q) c))))

    not_slot : (i : ℕ) → NotTint (Some (hop.Slot i))
    not_slot i z e = cc e

    not_direct : (u : ℕ) → NotTint (Some (hop.Direct u))
    not_direct u z e = cc e

    not_hit : (u : ℕ) → NotTint (Some (hop.Hit u))
    not_hit u z e = cc e

    not_copy : (u : ℕ) → NotTint (Some (hop.NeedCopy u))
    not_copy u z e = cc e

    not_none : NotTint None
    not_none z e = cc e

    asks : (o : Option BoxPtr) → Comes (suc d) (request_by ask_copy h1 o)
    asks None = tt
    asks (Some p) = tt

    -- an object's cell that lies here
    module _ (p : BoxPtr) (pointer : pointer_of v ≡ Some p) where
      leads_there : locate g t w.slot (suc d) ≡ Some (at_cell p.object)
      leads_there = next ∙ pointer_leads t v p pointer

      its_pointer : pointer_of it.0 ≡ Some p
      its_pointer = same_pointer v it.0 it.2 ∙ pointer

      -- an object that lies here
      direct_comes : server_of p.word ≡ num → Comes (suc d) (ready (local v h1) (in_cell p.word None))
      direct_comes here = subst (λ o. Comes (suc d) (ready (hopped (λ q. note (act.Local q.object q.word)) o h1) (in_cell p.word None))) (sym pointer) (λ u e. by (look h.work.rest.partition p.word) refl e)
        where
          h2 : Hand
          h2 = working (note (act.Local p.object p.word)) h1

          like2 : Like h2
          like2 = record { number = at.like.number; partition = at.like.partition; slots = at.like.slots; hits = at.like.hits }

          by : {u : Value} (o : Option Cell) → look h.work.rest.partition p.word ≡ o → cell_value o ≡ Some u → At (suc d) h2 (in_cell p.word None)
          by None q e = absurd (cc e)
          by (Some b) q e =
              let found = finds.direct d at.location it.0 p lt at.located it.1 its_pointer (here ∙ at.like.number) b (ap (λ z. look z p.word) (sym at.like.partition) ∙ q) in
              to_cell (suc d) h2 (in_cell p.word None) p.object b like2 leads_there labels1 refl q found (no_top_cell p.word None)

      -- a copy
      module _ (clean : (q : MutRef) → v ≡ value.Mut q → q.dirty ≡ false) (cached : is_cached cs p.word ≡ true) where
        abbrev Arrived : Hand → Type 0
        Arrived h3 = At (suc d) h3 (in_copy p.word)

        copy : (b : Cell) × (hit cs p.word ≡ Some b)
        copy = has_some (hit cs p.word) (sym (cached_hit cs p.word) ∙ cached)

        copy_there : hit r.cache p.word ≡ Some copy.0
        copy_there = sym (at.like.hits p.word) ∙ copy.1

        clean_there : (q : MutRef) → it.0 ≡ value.Mut q → q.dirty ≡ false
        clean_there q e = clean q (mut_unpinned v q (it.2 ∙ ap unpinned e))

        found_copy : cell_of g.cells p.object ≡ Some copy.0
        found_copy = finds.copied d at.location it.0 p lt at.located it.1 its_pointer clean_there copy.0 copy_there

        arrived : (h3 : Hand) → Like h3 → h3.work.labels ≡ passed_loads g t w.slot (suc d) → Arrived h3
        arrived h3 a ls = to_cell (suc d) h3 (in_copy p.word) p.object copy.0 a leads_there ls refl (a.hits p.word ∙ copy_there) found_copy (no_top_copy p.word)

        -- a reference that is pinned stands in a slot
        pins : (s2 : Spot) (q : SharedRef) (h2 : Hand) → Like h2 → h2.work.labels ≡ passed_loads g t w.slot (suc d) → ((i : ℕ) → s2 ≡ in_slot i → slice_get h2.thread.slots i ≡ Some (value.Shared q)) → (s2 ≡ on_top → ⊥)
            → Gives Arrived (put_at s2 (value.Shared (record q { pinned = true })) h2)
        pins (in_slot i) q h2 a ls stands off =
            let new = value.Shared (record q { pinned = true }) in
            test_gives Arrived (nat_lt i (length h2.thread.slots)) _ (λ on.
            arrived (with_slots (slice_set h2.thread.slots i new) h2)
            (record { number = a.number; partition = a.partition; slots = set_unpinned h2.thread.slots i (value.Shared q) new (stands i refl) refl ∙ a.slots; hits = a.hits }) ls)
        pins on_top q h2 a ls stands off = absurd (off refl)
        pins (in_cell u y) q h2 a ls stands off = tt
        pins (in_copy u) q h2 a ls stands off = tt
        pins nowhere q h2 a ls stands off = tt

        abbrev h2 : Hand
        h2 = working (note (act.Hit p.object p.word)) h1

        pinned_like : (u : ℕ) (walk : List ℕ) → Like (record { work = with_cache (pin cs u) h2.work; thread = record h.thread { walk = walk } })
        pinned_like u walk = record { number = at.like.number; partition = at.like.partition; slots = at.like.slots; hits = λ z. hit_users cs u (users cs u + 1) z ∙ at.like.hits z }

        like2 : Like h2
        like2 = record { number = at.like.number; partition = at.like.partition; slots = at.like.slots; hits = at.like.hits }

        pins_once : (q : SharedRef) (b : Bool) → v ≡ value.Shared q → Gives Arrived (pinned_once s q b h2)
        pins_once q true e = arrived h2 like2 labels1
        pins_once q false e =
            test_gives Arrived (can_pin cs q.word) _ (λ on. pins s q (working (with_cache (pin cs q.word)) h2) (pinned_like q.word h.thread.walk) labels1 (λ i z. ap (value_at h) (sym z) ∙ there ∙ ap (λ y. Some y) e) at.off_top)

        uses : (b : Bool) → Gives Arrived (used_once p.word b h2)
        uses true = arrived h2 like2 labels1
        uses false = test_gives Arrived (can_pin cs p.word) _ (λ on. arrived _ (pinned_like p.word (h.thread.walk ++ p.word ∷ [])) labels1)

        used : (u : Value) → v ≡ u → Gives Arrived (use_copy s u p.word h2)
        used (value.Shared q) e = pins_once q q.pinned e
        used _ e = uses (is_in p.word h.thread.walk)

        hit_comes : Comes (suc d) (ready_at (in_copy p.word) (use_copy s v p.word (hit_by v h1)))
        hit_comes = subst (λ o. Comes (suc d) (ready_at (in_copy p.word) (use_copy s v p.word (hopped (λ q. note (act.Hit q.object q.word)) o h1)))) (sym pointer) (ready_comes (suc d) (in_copy p.word) (use_copy s v p.word h2) (used v refl))

      -- a pointer under whose word a copy may be read
      cleanly : (q : read_hop num cs v ≡ Some (clean_hop num cs p.word)) → ((q : MutRef) → v ≡ value.Mut q → q.dirty ≡ false) → Comes (suc d) (read_star h s)
      cleanly q clean = by (server_of p.word == num) refl
        where
          by_cached : (server_of p.word == num) ≡ false → (b : Bool) → is_cached cs p.word ≡ b → Comes (suc d) (read_star h s)
          by_cached e true f = by_hop (Some (hop.Hit p.word)) (q ∙ ap (λ z. Some (if z then hop.Direct p.word else by_copy cs p.word)) e ∙ ap (λ z. Some (if z then hop.Hit p.word else hop.NeedCopy p.word)) f) (not_hit p.word) (hit_comes clean f)
          by_cached e false f =
              by_hop (Some (hop.NeedCopy p.word)) (q ∙ ap (λ z. Some (if z then hop.Direct p.word else by_copy cs p.word)) e ∙ ap (λ z. Some (if z then hop.Hit p.word else hop.NeedCopy p.word)) f) (not_copy p.word) (asks (pointer_of v))

          by : (b : Bool) → (server_of p.word == num) ≡ b → Comes (suc d) (read_star h s)
          by true e = by_hop (Some (hop.Direct p.word)) (q ∙ ap (λ z. Some (if z then hop.Direct p.word else by_copy cs p.word)) e) (not_direct p.word) (direct_comes (eqb-true (server_of p.word) num e))
          by false e = by_cached e (is_cached cs p.word) refl

      -- a dirty reference to an object elsewhere: it gets the next colour, and its object is asked for
      module _ (q : MutRef) (is : v ≡ value.Mut q) (dirty : q.dirty ≡ true) (away : (server_of q.word == num) ≡ false) where
        same_word : p.word ≡ q.word
        same_word = ap (λ (z : BoxPtr). z.word) (some_one (sym pointer ∙ ap pointer_of is))
          where
            some_one : {a b : BoxPtr} → Some a ≡ Some b → a ≡ b
            some_one e = cc

        abbrev new : MutRef
        new = took q (next_word q.word)

        none_cached : is_cached cs (next_word q.word) ≡ false
        none_cached =
            let r0 : is_cached r.cache (next_word p.word) ≡ false = finds.uncached d at.location it.0 p lt at.located it.1 its_pointer in
            cached_hit cs (next_word q.word) ∙ ap is_some (at.like.hits (next_word q.word)) ∙ sym (cached_hit r.cache (next_word q.word)) ∙ ap (λ z. is_cached r.cache (next_word z)) (sym same_word) ∙ r0

        -- from the new word on
        asks_new : (h3 : Hand) (s2 : Spot) → h3.work.rest ≡ h.work.rest → value_at h3 s2 ≡ Some (value.Mut new) → Comes (suc d) (read_value s2 (value_at h3 s2) h3)
        asks_new h3 s2 e f =
            subst (λ z. Comes (suc d) (read_value s2 z h3)) (sym f)
            (subst (λ z. Comes (suc d) (read_by s2 (value.Mut new) z h3)) (sym hops) tt)
          where
            elsewhere : (server_of (next_word q.word) == num) ≡ false
            elsewhere = ap (λ z. z == num) (next_server q.word) ∙ away

            hops : read_hop h3.work.rest.number h3.work.rest.cache (value.Mut new) ≡ Some (hop.NeedCopy (next_word q.word))
            hops =
                ap (λ (z : Rest). read_hop z.number z.cache (value.Mut new)) e ∙ ap (λ z. Some (if z then hop.Direct (next_word q.word) else by_copy cs (next_word q.word))) elsewhere
                ∙ ap (λ z. Some (if z then hop.Hit (next_word q.word) else hop.NeedCopy (next_word q.word))) none_cached

        abbrev Asks : Spot → Hand → Type 0
        Asks s2 h3 = Comes (suc d) (read_value s2 (value_at h3 s2) h3)

        then_asks : (s2 : Spot) (o : Option Hand) → Gives (Asks s2) o → Comes (suc d) (and_then go (ready_at s2 o))
        then_asks s2 None e = tt
        then_asks s2 (Some h3) e = e

        put_new : (s2 : Spot) (h3 : Hand) → h3.work.rest ≡ h.work.rest → value_at h3 s2 ≡ Some (value.Mut q) → (s2 ≡ on_top → ⊥) → Gives (Asks s2) (put_at s2 (value.Mut new) h3)
        put_new (in_slot i) h3 e f off =
            test_gives (Asks (in_slot i)) (nat_lt i (length h3.thread.slots)) _ (λ on. asks_new (with_slots (slice_set h3.thread.slots i (value.Mut new)) h3) (in_slot i) e (set_there h3.thread.slots i (value.Mut q) (value.Mut new) f))
        put_new on_top h3 e f off = absurd (off refl)
        put_new (in_cell u y) h3 e f off = tt
        put_new (in_copy u) h3 e f off = tt
        put_new nowhere h3 e f off = tt

        tints : Comes (suc d) (and_then go (ready_at s (put_word s (issue_tint (box_of q) h1.work) h1)))
        tints =
            let h3 : Hand = record h1 { work = (issue_tint (box_of q) h1.work).work } in
            let stands : value_at h3 s ≡ Some (value.Mut q) = value_tinted s ∙ there ∙ ap (λ z. Some z) is in
            then_asks s (put_word s (issue_tint (box_of q) h1.work) h1)
            (subst (λ o. Gives (Asks s) (then_some o (λ z. then_some (with_word (next_word q.word) z) (λ y. put_at s y h3)))) (sym stands) (put_new s h3 refl stands at.off_top))
          where
            value_tinted : (s2 : Spot) → value_at (record h1 { work = (issue_tint (box_of q) h1.work).work }) s2 ≡ value_at h s2
            value_tinted (in_slot i) = refl
            value_tinted on_top = refl
            value_tinted (in_cell u y) = refl
            value_tinted (in_copy u) = refl
            value_tinted nowhere = refl

        last : Comes (suc d) (and_then go (clean_last s q h1))
        last = subst (λ b. Comes (suc d) (and_then go (if b then ready_at s (then_some (issue_renewal (box_of q) h1.work) (λ m. put_word s m h1)) else requested (ask_object (box_of q) h1)))) (sym away) tt

        by_answer : (b : Bool) → Comes (suc d) (and_then go (cleaned_by (if b then cleaned.Tinted (next_word q.word) else cleaned.MustRenew) s q h1))
        by_answer true = tints
        by_answer false = last

        cleans : Comes (suc d) (and_then go (clean s q h1))
        cleans = by (nat_lt (colour_of q.word) h1.work.rest.partition.limit)
          where
            answer : Comes (suc d) (and_then go (cleaned_by (cleaned_answer h1.work.rest.partition.limit q) s q h1))
            answer =
                subst (λ b. Comes (suc d) (and_then go (cleaned_by (if b then (if nat_lt (colour_of q.word + 1) h1.work.rest.partition.limit then cleaned.Tinted (next_word q.word) else cleaned.MustRenew) else cleaned.Same) s q h1))) (sym dirty)
                (by_answer (nat_lt (colour_of q.word + 1) h1.work.rest.partition.limit))

            by : (b : Bool) → Comes (suc d) (and_then go (if b then cleaned_by (cleaned_answer h1.work.rest.partition.limit q) s q h1 else nothing))
            by true = answer
            by false = tt

        dirtily : Comes (suc d) (read_star h s)
        dirtily =
            let hops : read_hop num cs v ≡ Some (hop.NeedTint q.word) = ap (read_hop num cs) is ∙ ap (λ b. Some (if b then dirty_hop num q.word else clean_hop num cs q.word)) dirty ∙ ap (λ b. Some (if b then hop.Direct q.word else hop.NeedTint q.word)) away in
            subst (λ z. Comes (suc d) (and_then go (tinted_first s z h1))) (sym there)
            (subst (λ z. Comes (suc d) (and_then go (read_clean s v z h1))) (sym hops)
            (subst (λ z. Comes (suc d) (and_then go (clean_value s (Some z) h1))) (sym is) cleans))

    -- EACH VALUE

    not_mut : {A : Type 0} (q : MutRef) (u : A) → ⊥ → A
    not_mut q u e = absurd e

    to_slot_comes : (i : ℕ) → leads t (Some v) ≡ Some (at_slot t i) → Comes (suc d) (ready h1 (in_slot i))
    to_slot_comes i e = λ u q. to_slot (suc d) h1 i like1 (next ∙ e) labels1

    follow : (u : Value) → v ≡ u → Comes (suc d) (read_star h s)
    follow (value.SharedSlot i) e = by_hop (Some (hop.Slot i)) (ap (read_hop num cs) e) (not_slot i) (to_slot_comes i (ap (λ z. leads t (Some z)) e))
    follow (value.MutSlot i) e = by_hop (Some (hop.Slot i)) (ap (read_hop num cs) e) (not_slot i) (to_slot_comes i (ap (λ z. leads t (Some z)) e))
    follow (value.Own (owned.Box b)) e = cleanly b (ap pointer_of e) (ap (read_hop num cs) e) (λ q f. let z : value.Own (owned.Box b) ≡ value.Mut q = sym e ∙ f in absurd (cc z))
    follow (value.Shared b) e =
        cleanly (record { word = b.word; object = b.object }) (ap pointer_of e) (ap (read_hop num cs) e) (λ q f. let z : value.Shared b ≡ value.Mut q = sym e ∙ f in absurd (cc z))
    follow (value.Mut b) e = by b.dirty refl
      where
        p : BoxPtr
        p = record { word = b.word; object = b.object }

        one_mut : {a c : MutRef} → value.Mut a ≡ value.Mut c → a ≡ c
        one_mut f = cc

        by_server : b.dirty ≡ true → (z : Bool) → (server_of b.word == num) ≡ z → Comes (suc d) (read_star h s)
        by_server f true z =
            by_hop (Some (hop.Direct b.word))
            (ap (read_hop num cs) e ∙ ap (λ y. Some (if y then dirty_hop num b.word else clean_hop num cs b.word)) f ∙ ap (λ y. Some (if y then hop.Direct b.word else hop.NeedTint b.word)) z) (not_direct b.word)
            (direct_comes p (ap pointer_of e) (eqb-true (server_of b.word) num z))
        by_server f false z = dirtily p (ap pointer_of e) b e f z

        by : (y : Bool) → b.dirty ≡ y → Comes (suc d) (read_star h s)
        by false f =
            cleanly p (ap pointer_of e) (ap (read_hop num cs) e ∙ ap (λ y. Some (if y then dirty_hop num b.word else clean_hop num cs b.word)) f) (λ q z. let same : b ≡ q = one_mut (sym e ∙ z) in sym (ap (λ (y : MutRef). y.dirty) same) ∙ f)
        by true f = by_server f (server_of b.word == num) refl
    follow (value.Own owned.Nothing) e = by_hop None (ap (read_hop num cs) e) not_none tt
    follow (value.Own owned.Unit) e = by_hop None (ap (read_hop num cs) e) not_none tt
    follow (value.Own (owned.Int i)) e = by_hop None (ap (read_hop num cs) e) not_none tt
    follow (value.Own (owned.Mutex m)) e = by_hop None (ap (read_hop num cs) e) not_none tt
    follow (value.Own (owned.Task u)) e = by_hop None (ap (read_hop num cs) e) not_none tt
    follow value.Gone e = by_hop None (ap (read_hop num cs) e) not_none tt
    follow (value.Held m) e = by_hop None (ap (read_hop num cs) e) not_none tt

  -- SO MANY STARS

  star : (d : ℕ) → d < n → (h : Hand) (s : Spot) → ((v : Value) → value_at h s ≡ Some v → At d h s) → Comes (suc d) (read_star h s)
  star d lt h s at = by (value_at h s) refl
    where
      by : (o : Option Value) → value_at h s ≡ o → Comes (suc d) (read_star h s)
      by None e = subst (λ z. Comes (suc d) (and_then (λ h2 s2. read_value s2 (value_at h2 s2) h2) (tinted_first s z (load_at s h)))) (sym e) tt
      by (Some v) e = follow d lt h s (at v e) v e v refl

  then_comes : (d e : ℕ) (y : Prepared) (go : Hand → Spot → Prepared) → Comes d y → ((h : Hand) (s : Spot) → ((v : Value) → value_at h s ≡ Some v → At d h s) → Comes e (go h s)) → Comes e (and_then go y)
  then_comes d e (ready h s) go c f = f h s c
  then_comes d e (requested h) go c f = tt
  then_comes d e nothing go c f = tt

  stars : (m d : ℕ) (h : Hand) (s : Spot) → d + m ≤ n → ((v : Value) → value_at h s ≡ Some v → At d h s) → Comes (d + m) (read_stars m h s)
  stars zero d h s le at = subst (λ z. Comes z (ready h s)) none at
    where
      none : d ≡ d + 0
      none = omega arith
  stars (suc m) d h s le at =
      let more : suc d + m ≡ d + suc m = omega arith in
      subst (λ z. Comes z (and_then (read_stars m) (read_star h s))) more
      (then_comes (suc d) (suc d + m) (read_star h s) (read_stars m) (star d (omega (arith, le)) h s at) (λ h2 s2 c. stars m (suc d) h2 s2 (omega (arith, le)) c))

  -- a place is followed
  pub reads : (m : ℕ) → m ≤ n → Comes m (read_stars m (record { work = begin_work r; thread = x }) (in_slot w.slot))
  reads m le = subst (λ z. Comes z (read_stars m (record { work = begin_work r; thread = x }) (in_slot w.slot))) whole (stars m 0 (record { work = begin_work r; thread = x }) (in_slot w.slot) (omega (arith, le)) (λ v e. begins))
    where
      whole : 0 + m ≡ m
      whole = omega arith
