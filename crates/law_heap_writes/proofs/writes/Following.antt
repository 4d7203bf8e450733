-- A place is followed for writing: the labels of the hand are the loads on the way, and the object that each hop comes to lies at the event's server when the event
-- begins.
use Rattle.std.proofs.Common.{◌≡◌, ℕ, zero, suc, ◌+◌, ◌<◌, ◌==◌, nat_lt, Bool, true, false, if◌then◌else◌, List, ◌++◌, Option, Some, None, refl, sym, ap, ap₂, subst, ◌∙◌, arith, length}
use Rattle.std.specs.Prelude.{⊤, slice_get, ◌&&◌, slice_set}
use Rattle.std.proofs.lemmas.Bool.Decides.{nat_tests}
use Rattle.law_heap_writes.specs.Below.fr_base.declared.label.Label.{Label}
use Rattle.law_heap_writes.specs.Below.fr_base.declared.name.ObjNo.{ObjNo}
use Rattle.law_heap_writes.specs.Below.global_addr.Words.{colour_of, server_of}
use Rattle.law_heap_writes.specs.Below.heap_partition.declared.value.BoxPtr.{BoxPtr}
use Rattle.law_heap_writes.specs.Below.heap_partition.declared.value.Cell.{Cell}
use Rattle.law_heap_writes.specs.Below.heap_partition.declared.value.Owned.TheVariants as owned
use Rattle.law_heap_writes.specs.Below.mut_borrow.declared.mutable.MutRef.{MutRef}
use Rattle.law_heap_writes.specs.Below.owner_box.Partition.{freed, new_word, renewed, stored}
use Rattle.law_heap_writes.specs.Below.journal.declared.act.Act.TheVariants as act
use Rattle.law_heap_writes.specs.Below.thread_state.View.{ThreadState}
use Rattle.law_heap_writes.specs.Below.thread_state.declared.value.Value.{Value}
use Rattle.law_heap_writes.specs.Below.thread_state.declared.value.Value.TheVariants as value
use Rattle.law_heap_writes.specs.Below.place_walk.declared.hop.Hop.{Hop as Jump}
use Rattle.law_heap_writes.specs.Below.place_walk.declared.hop.Hop.TheVariants as jump
use Rattle.law_heap_writes.specs.Below.place_walk.Hops.{write_hop}
use Rattle.law_heap_writes.specs.Below.server_model.Servers.{Rest}
use Rattle.law_heap_writes.specs.Below.server_model.Work.{Hand, Work, working, with_partition, then_some, leads_here, note, with_slots}
use Rattle.law_heap_writes.specs.Below.server_model.NewWords.{NewWord, can_grow, is_last, issue_tint, issue_renewal, issue_colour}
use Rattle.law_heap_writes.specs.Below.server_model.Places.{Spot, in_slot, on_top, in_cell, in_copy, nowhere, cell_at, value_in, value_at, load_of, load_at, note_write, put_at, pointer_of, with_word, put_word}
use Rattle.law_heap_writes.specs.Below.server_model.Prepare.{Prepared, ready, requested, nothing, and_then, ready_at, ask_object, request_by, local, hopped, passing, box_ready, colour_box, write_by, pass_by, write_value, write_star, write_stars}
use Rattle.law_heap_writes.specs.Below.coherent_memory.Things.{Location, at_slot, in_cell as in_object}
use Rattle.law_heap_writes.specs.Below.coherent_memory.Follow.{Ground, cell_of, locate}
use Rattle.law_heap_writes.specs.Below.law_counts_sums.Laws.{Gives}
use Rattle.law_heap_writes.proofs.Below.law_words_paths.paths.Sole.{some_is}
use Rattle.law_heap_writes.proofs.Below.law_heap_steps.turns.ReadWalk.{loads_of, loads_behind, passed_loads}
use Rattle.law_words_writes.proofs.Below.law_results_events.writes.Memory.{Leads, looks}
use Rattle.law_words_writes.proofs.Below.law_results_events.writes.Route.{LeadsBy, Hop, by_slot, by_reference, by_box, by_cell, Route, Writing, At, a_slot, a_cell, Fine, hop_star}

-- THE LABELS

-- a place that is ready has these
abbrev pub Labelled : List Label → Prepared → Type 0
Labelled ls (ready h s) = h.work.labels ≡ ls
Labelled ls (requested h) = ⊤
Labelled ls nothing = ⊤

-- they stay where a word is put
noted_labels : (q : Option ℕ) (h : Hand) → (note_write q h).work.labels ≡ h.work.labels
noted_labels None h = refl
noted_labels (Some i) h = refl

put_labels : (sp : Spot) (v : Value) (h : Hand) → Gives (λ (g : Hand). g.work.labels ≡ h.work.labels) (put_at sp v h)
put_labels (in_slot i) v h = by (nat_lt i (length h.thread.slots))
  where
    by : (b : Bool) → Gives (λ (g : Hand). g.work.labels ≡ h.work.labels) (if b then Some (with_slots (slice_set h.thread.slots i v) h) else None)
    by true = refl
    by false = tt
put_labels on_top v h = refl
put_labels (in_cell w q) (value.Own u) h = by (leads_here h.work.rest.partition w)
  where
    by : (b : Bool) → Gives (λ (g : Hand). g.work.labels ≡ h.work.labels) (if b then Some (note_write q (working (with_partition (stored h.work.rest.partition w u)) h)) else None)
    by true = noted_labels q (working (with_partition (stored h.work.rest.partition w u)) h)
    by false = tt
put_labels (in_cell w q) value.Gone h = tt
put_labels (in_cell w q) (value.SharedSlot i) h = tt
put_labels (in_cell w q) (value.MutSlot i) h = tt
put_labels (in_cell w q) (value.Shared r) h = tt
put_labels (in_cell w q) (value.Mut r) h = tt
put_labels (in_cell w q) (value.Held m) h = tt
put_labels (in_copy w) v h = tt
put_labels nowhere v h = tt

ready_labels : (ls : List Label) (sp : Spot) (o : Option Hand) → Gives (λ (g : Hand). g.work.labels ≡ ls) o → Labelled ls (ready_at sp o)
ready_labels ls sp None e = tt
ready_labels ls sp (Some h) e = e

word_labels : (sp to : Spot) (n : NewWord) (h : Hand) (ls : List Label) → n.work.labels ≡ ls → Labelled ls (ready_at to (put_word sp n h))
word_labels sp to n h ls e = by (value_at (record h { work = n.work }) sp)
  where
    of : (o : Option Value) → Labelled ls (ready_at to (then_some o (λ new. put_at sp new (record h { work = n.work }))))
    of None = tt
    of (Some new) = ready_labels ls to (put_at sp new (record h { work = n.work })) (more (put_at sp new (record h { work = n.work })) (put_labels sp new (record h { work = n.work })))
      where
        more : (o : Option Hand) → Gives (λ (g : Hand). g.work.labels ≡ n.work.labels) o → Gives (λ (g : Hand). g.work.labels ≡ ls) o
        more None f = tt
        more (Some g) f = f ∙ e

    by : (o : Option Value) → Labelled ls (ready_at to (then_some o (λ v. then_some (with_word n.word v) (λ new. put_at sp new (record h { work = n.work })))))
    by None = tt
    by (Some v) = of (with_word n.word v)

issued_labels : (p : BoxPtr) (w : Work) → Gives (λ (n : NewWord). n.work.labels ≡ w.labels) (issue_colour p w)
issued_labels p w = by (nat_lt (colour_of p.word + 1) w.rest.partition.limit)
  where
    renewed_so : (b : Bool) → Gives (λ (n : NewWord). n.work.labels ≡ w.labels) (if b then Some (record {
      word = new_word (freed w.rest.partition p.word);
      work = note (act.Renew p.object p.word (new_word (freed w.rest.partition p.word))) (with_partition (renewed w.rest.partition p.word) w);
    }) else None)
    renewed_so true = refl
    renewed_so false = tt

    by : (b : Bool) → Gives (λ (n : NewWord). n.work.labels ≡ w.labels) (if b then Some (issue_tint p w) else issue_renewal p w)
    by true = refl
    by false = renewed_so (leads_here w.rest.partition p.word && (is_last w.rest.partition p.word && can_grow w.rest.partition))

local_labels : (v : Value) (h : Hand) → (local v h).work.labels ≡ h.work.labels
local_labels v h = by (pointer_of v)
  where
    by : (o : Option BoxPtr) → (hopped (λ p. note (act.Local p.object p.word)) o h).work.labels ≡ h.work.labels
    by None = refl
    by (Some p) = refl

asks_labels : (ls : List Label) (h : Hand) (o : Option BoxPtr) → Labelled ls (request_by ask_object h o)
asks_labels ls h None = tt
asks_labels ls h (Some p) = tt

colour_labels : (sp : Spot) (o : Option BoxPtr) (h : Hand) → Labelled h.work.labels (colour_box sp o h)
colour_labels sp None h = tt
colour_labels sp (Some p) h = by (issue_colour p h.work) (issued_labels p h.work)
  where
    by : (q : Option NewWord) → Gives (λ (n : NewWord). n.work.labels ≡ h.work.labels) q → Labelled h.work.labels (box_ready sp q h)
    by None e = tt
    by (Some n) e = word_labels sp (in_cell n.word None) n h h.work.labels e

passes_labels : (sp : Spot) (v : Value) (o : Option Jump) (h : Hand) → Labelled h.work.labels (pass_by sp v o h)
passes_labels sp v (Some (jump.Slot i)) h = refl
passes_labels sp v (Some (jump.NeedTint w)) h = refl
passes_labels sp v (Some (jump.AtCell w)) h = local_labels v h
passes_labels sp v (Some (jump.Direct w)) h = tt
passes_labels sp v (Some (jump.Hit w)) h = tt
passes_labels sp v (Some (jump.NeedCopy w)) h = tt
passes_labels sp v (Some (jump.NeedMove w)) h = tt
passes_labels sp v None h = tt

writes_labels : (j : ℕ) (sp : Spot) (v : Value) (o : Option Jump) (h : Hand) → Labelled h.work.labels (write_by j sp v o h)
writes_labels j sp v (Some (jump.Slot i)) h = refl
writes_labels j sp v (Some (jump.NeedTint w)) h = colour_labels sp (pointer_of v) (passing (j + 1) h)
writes_labels j sp v (Some (jump.AtCell w)) h = local_labels v h
writes_labels j sp v (Some (jump.NeedMove w)) h = asks_labels h.work.labels h (pointer_of v)
writes_labels j sp v (Some (jump.Direct w)) h = tt
writes_labels j sp v (Some (jump.Hit w)) h = tt
writes_labels j sp v (Some (jump.NeedCopy w)) h = tt
writes_labels j sp v None h = tt

-- one hop adds the load of where it comes from
star_labels : (j : ℕ) (h : Hand) (sp : Spot) → Labelled (h.work.labels ++ load_of (cell_at h sp)) (write_star j h sp)
star_labels j h sp = by (value_at h sp)
  where
    of : (v : Value) (b : Bool) → Labelled (h.work.labels ++ load_of (cell_at h sp)) (if b then pass_by sp v (write_hop h.work.rest.number v) (load_at sp h) else write_by j sp v (write_hop h.work.rest.number v) (load_at sp h))
    of v true = passes_labels sp v (write_hop h.work.rest.number v) (load_at sp h)
    of v false = writes_labels j sp v (write_hop h.work.rest.number v) (load_at sp h)

    by : (o : Option Value) → Labelled (h.work.labels ++ load_of (cell_at h sp)) (write_value j sp o (load_at sp h))
    by None = tt
    by (Some v) = of v (nat_lt j h.thread.passed)

-- THE SERVER OF THE WORD

abbrev IsHere : Bool → Prepared → Type 0
IsHere b (ready h s) = b ≡ true
IsHere b (requested h) = ⊤
IsHere b nothing = ⊤

ready_here : (sp : Spot) (o : Option Hand) → IsHere true (ready_at sp o)
ready_here sp None = tt
ready_here sp (Some h) = refl

asks_here : (b : Bool) (h : Hand) (o : Option BoxPtr) → IsHere b (request_by ask_object h o)
asks_here b h None = tt
asks_here b h (Some p) = tt

coloured_here : (sp : Spot) (o : Option BoxPtr) (h : Hand) → IsHere true (colour_box sp o h)
coloured_here sp None h = tt
coloured_here sp (Some p) h = by (issue_colour p h.work)
  where
    by : (q : Option NewWord) → IsHere true (box_ready sp q h)
    by None = tt
    by (Some n) = ready_here (in_cell n.word None) (put_word sp n h)

-- a box, or a mutable reference, whose word is of another server is no ready hop
box_here : (j : ℕ) (h : Hand) (sp : Spot) (p : BoxPtr) → value_at h sp ≡ Some (value.Own (owned.Box p)) → IsHere (server_of p.word == h.work.rest.number) (write_star j h sp)
box_here j h sp p stands = subst (λ o. IsHere (server_of p.word == h.work.rest.number) (write_value j sp o (load_at sp h))) (sym stands) (by (nat_lt j h.thread.passed) (server_of p.word == h.work.rest.number))
  where
    by : (b d : Bool) → IsHere d (if b then pass_by sp (value.Own (owned.Box p)) (Some (if d then jump.NeedTint p.word else jump.NeedMove p.word)) (load_at sp h) else write_by j sp (value.Own (owned.Box p)) (Some (if d then jump.NeedTint p.word else jump.NeedMove p.word)) (load_at sp h))
    by true true = refl
    by true false = tt
    by false true = coloured_here sp (Some p) (passing (j + 1) (load_at sp h))
    by false false = asks_here false (load_at sp h) (Some p)

reference_here : (j : ℕ) (h : Hand) (sp : Spot) (q : MutRef) → value_at h sp ≡ Some (value.Mut q) → IsHere (server_of q.word == h.work.rest.number) (write_star j h sp)
reference_here j h sp q stands = subst (λ o. IsHere (server_of q.word == h.work.rest.number) (write_value j sp o (load_at sp h))) (sym stands) (by (nat_lt j h.thread.passed) (server_of q.word == h.work.rest.number))
  where
    by : (b d : Bool) → IsHere d (if b then pass_by sp (value.Mut q) (Some (if d then jump.AtCell q.word else jump.NeedMove q.word)) (load_at sp h) else write_by j sp (value.Mut q) (Some (if d then jump.AtCell q.word else jump.NeedMove q.word)) (load_at sp h))
    by true true = refl
    by true false = tt
    by false true = refl
    by false false = tt

-- ALONG A ROUTE

module _ (g : Ground) (r : Rest) (y : ThreadState) (slot d : ℕ) (route : Route r y (cell_of g.cells) (locate g y.number slot) d) where
  abbrev C : ObjNo → Option Cell
  C = cell_of g.cells

  abbrev place : ℕ → Option Location
  place = locate g y.number slot

  -- the object of a cell lies here when the event begins
  abbrev pub Lay : Location → Type 0
  Lay (in_object o) = (u : ℕ) × (c : Cell) × (C o ≡ Some c) × Leads r.partition u c
  Lay l = ⊤

  -- so many hops are behind
  abbrev pub Came : ℕ → Prepared → Type 0
  Came j (ready h sp) = (h.work.labels ≡ passed_loads g y.number slot j) × ((l : Location) → place j ≡ Some l → Lay l)
  Came j (requested h) = ⊤
  Came j nothing = ⊤

  module _ (j : ℕ) (lt : j < d) (l m : Location) (located : place j ≡ Some l) (next : place (suc j) ≡ Some m) (h : Hand) (way : Writing r y C place j h) (labels : h.work.labels ≡ passed_loads g y.number slot j) where
    number : h.work.rest.number ≡ r.number
    number = ap (λ (x : Rest). x.number) way.rest

    loaded : (sp : Spot) → At r y C place h.work.rest.partition j sp l → load_of (cell_at h sp) ≡ loads_of g l
    loaded sp a = by sp l a
      where
        by : (sp : Spot) (b : Location) → At r y C place h.work.rest.partition j sp b → load_of (cell_at h sp) ≡ loads_of g b
        by _ _ (a_slot i) = refl
        by _ _ (a_cell u q o c leads has object behind) = ap load_of (looks h.work.rest.partition u c leads ∙ sym has)

    told : (sp : Spot) → At r y C place h.work.rest.partition j sp l → h.work.labels ++ load_of (cell_at h sp) ≡ passed_loads g y.number slot (suc j)
    told sp a = ap₂ (λ p q. p ++ q) labels (loaded sp a) ∙ ap (λ o. passed_loads g y.number slot j ++ loads_behind g o) (sym located)

    came : (sp : Spot) → At r y C place h.work.rest.partition j sp l → (b : Bool) → (b ≡ true → Lay m) → IsHere b (write_star j h sp) → Came (suc j) (write_star j h sp)
    came sp a b lay here = by (write_star j h sp) here (star_labels j h sp)
      where
        by : (p : Prepared) → IsHere b p → Labelled (h.work.labels ++ load_of (cell_at h sp)) p → Came (suc j) p
        by (ready h2 sp2) u f = (f ∙ told sp a, λ l2 e. subst Lay (some_is (sym next ∙ e)) (lay u))
        by (requested h2) u f = tt
        by nothing u f = tt

    none_here : (p : Prepared) → IsHere true p
    none_here (ready h2 sp2) = refl
    none_here (requested h2) = tt
    none_here nothing = tt

    lay_by : (word : ℕ) (o : ObjNo) (b : LeadsBy r y C place j word o) → m ≡ in_object o → (server_of word == h.work.rest.number) ≡ true → Lay m
    lay_by word o b is test = let mine : server_of word ≡ h.work.rest.number = grind (arith, nat_tests, test) in subst Lay (sym is) (word, b.cell, b.there, b.home (mine ∙ number))

    one_hop : (sp : Spot) → At r y C place h.work.rest.partition j sp l → Came (suc j) (write_star j h sp)
    one_hop sp spot = by l l m refl refl refl sp spot (route.hop j lt l m located next)
      where
        slot_value : (i : ℕ) (v : Value) → l ≡ at_slot y.number i → slice_get y.slots i ≡ Some v → value_at h (in_slot i) ≡ Some v
        slot_value i v from e = way.slots i (λ b less f. route.apart j b less (omega (arith, lt)) l (f ∙ ap Some (sym from)) located) ∙ e

        same_slot : {a b : ℕ} → at_slot y.number a ≡ at_slot y.number b → a ≡ b
        same_slot e = cc

        same_object : {a b : ObjNo} → in_object a ≡ in_object b → a ≡ b
        same_object e = cc

        no_object : {a : ℕ} {o : ObjNo} → at_slot y.number a ≡ in_object o → ⊥
        no_object e = absurd (cc e)

        by : (a a2 b : Location) → l ≡ a → l ≡ a2 → m ≡ b → (sp : Spot) → At r y C place h.work.rest.partition j sp a → Hop r y C place j a2 b → Came (suc j) (write_star j h sp)
        by _ _ _ from from2 to _ (a_slot i) (by_slot i2 b e) = came (in_slot i) (subst (At r y C place h.work.rest.partition j (in_slot i)) (sym from) (a_slot i)) true (λ z. subst Lay (sym to) tt) (none_here (write_star j h (in_slot i)))
        by _ _ _ from from2 to _ (a_slot i) (by_reference i2 q e b) =
            let same : i ≡ i2 = same_slot (sym from ∙ from2) in
            came (in_slot i) (subst (At r y C place h.work.rest.partition j (in_slot i)) (sym from) (a_slot i)) (server_of q.word == h.work.rest.number) (lay_by q.word q.object b to)
            (reference_here j h (in_slot i) q (slot_value i (value.Mut q) from (ap (slice_get y.slots) same ∙ e)))
        by _ _ _ from from2 to _ (a_slot i) (by_box i2 p e b) =
            let same : i ≡ i2 = same_slot (sym from ∙ from2) in
            came (in_slot i) (subst (At r y C place h.work.rest.partition j (in_slot i)) (sym from) (a_slot i)) (server_of p.word == h.work.rest.number) (lay_by p.word p.object b to)
            (box_here j h (in_slot i) p (slot_value i (value.Own (owned.Box p)) from (ap (slice_get y.slots) same ∙ e)))
        by _ _ _ from from2 to _ (a_slot i) (by_cell o c p has boxed b) = absurd (no_object (sym from ∙ from2))
        by _ _ _ from from2 to _ (a_cell u q o c leads has object behind) (by_slot i2 b e) = absurd (no_object (sym from2 ∙ from))
        by _ _ _ from from2 to _ (a_cell u q o c leads has object behind) (by_reference i2 x e b) = absurd (no_object (sym from2 ∙ from))
        by _ _ _ from from2 to _ (a_cell u q o c leads has object behind) (by_box i2 p e b) = absurd (no_object (sym from2 ∙ from))
        by _ _ _ from from2 to _ (a_cell u q o c leads has object behind) (by_cell o2 c2 p has2 boxed b) =
            let same : o ≡ o2 = same_object (sym from ∙ from2) in
            let one : c ≡ c2 = some_is (sym has ∙ ap C same ∙ has2) in
            came (in_cell u q) (subst (At r y C place h.work.rest.partition j (in_cell u q)) (sym from) (a_cell u q o c leads has object behind)) (server_of p.word == h.work.rest.number) (lay_by p.word p.object b to)
            (box_here j h (in_cell u q) p (ap value_in (looks h.work.rest.partition u c leads) ∙ ap (λ z. Some (value.Own z)) (ap (λ (z : Cell). z.value) one ∙ boxed)))

  -- ALL HOPS

  abbrev Ready : ℕ → Prepared → Type 0
  Ready = Fine r y C place ⊤

  then_came : (j n : ℕ) (go : Hand → Spot → Prepared) (p : Prepared) → Ready j p → Came j p → ((h : Hand) (sp : Spot) (l : Location) → place j ≡ Some l → At r y C place h.work.rest.partition j sp l → Writing r y C place j h → Came j (ready h sp) → Came n (go h sp)) → Came n (and_then go p)
  then_came j n go (ready h sp) f g on = on h sp f.0 f.1 f.2 f.3 g
  then_came j n go (requested h) f g on = tt
  then_came j n go nothing f g on = tt

  pub all_came : (more j : ℕ) → j + more ≡ d → (h : Hand) (sp : Spot) (l : Location) → place j ≡ Some l → At r y C place h.work.rest.partition j sp l → Writing r y C place j h → Came j (ready h sp) → Came d (write_stars more j h sp)
  all_came zero j e h sp l located spot way c = let same : j ≡ d = omega (arith, e) in subst (λ n. Came n (ready h sp)) same c
  all_came (suc more) j e h sp l located spot way c =
      let lt : j < d = omega (arith, e) in
      let m = route.leads_there (suc j) (omega (arith, lt)) in
      let one : suc j ≡ j + 1 = omega arith in
      then_came (suc j) d (write_stars more (j + 1)) (write_star j h sp) (hop_star r y C place ⊤ d route (λ i less le. tt) j lt l m.0 located m.1 h way sp spot) (one_hop j lt l m.0 located m.1 h way c.0 sp spot)
      (λ h2 sp2 l2 located2 spot2 way2 c2. subst (λ n. Came d (write_stars more n h2 sp2)) one (all_came more (suc j) (omega (arith, e)) h2 sp2 l2 located2 spot2 way2 c2))
