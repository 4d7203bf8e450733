-- After the delivery of an object what a thread has taken it has under another word than the pointer has that its place follows last.
use Rattle.std.proofs.Common.{◌≡◌, ◌⊎◌, inl, inr, ℕ, zero, suc, ◌+◌, ◌≤◌, Bool, true, false, List, Option, Some, None, refl, sym, ap, subst, ◌∙◌, arith}
use Rattle.std.specs.Prelude.{slice_get}
use Rattle.law_words_ends.specs.Below.fr_base.declared.name.ObjNo.{ObjNo}
use Rattle.law_words_ends.specs.Below.fr_base.declared.label.Plain.{Plain}
use Rattle.law_words_ends.specs.Below.fr_base.declared.place.Lval.{Lval}
use Rattle.law_words_ends.specs.Below.fr_base.declared.instruction.Instr.{Instr}
use Rattle.law_words_ends.specs.Below.fr_base.declared.instruction.Instr.TheVariants as instr
use Rattle.law_words_ends.specs.Below.fr_sound.Seen.{seen_cell}
use Rattle.law_words_ends.specs.Below.heap_partition.declared.value.Cell.{Cell}
use Rattle.law_words_ends.specs.Below.thread_state.View.{ThreadState}
use Rattle.law_words_ends.specs.Below.thread_state.declared.phase.Phase.{Phase}
use Rattle.law_words_ends.specs.Below.thread_state.declared.phase.Phase.TheVariants as phase
use Rattle.law_words_ends.specs.Below.thread_state.declared.value.Value.{Value}
use Rattle.law_words_ends.specs.Below.thread_state.declared.value.Value.TheVariants as value
use Rattle.law_words_ends.specs.Below.server_model.Servers.{Server, Cluster}
use Rattle.law_words_ends.specs.Below.coherent_memory.Names.{tot, one, other}
use Rattle.law_words_ends.specs.Below.coherent_memory.Things.{Location, at_slot, in_cell, things_of}
use Rattle.law_words_ends.specs.Below.coherent_memory.Follow.{Standing, Ground, thread_at, cell_of, slot_of, value_of, value_in, value_behind, locate, hop_at}
use Rattle.law_words_ends.specs.Below.coherent_memory.Sight.{sight, issued}
use Rattle.law_words_ends.specs.Below.coherent_memory.OneHeap.{object_value}
use Rattle.law_words_ends.specs.Below.coherent_memory.Walking.{instr_of}
use Rattle.law_words_ends.specs.Below.coherent_memory.Requests.{has_word, lent_place, last_hop, taken_again, old_word}
use Rattle.law_words_ends.specs.Below.law_words_paths.paths.HeapStore.{GoesOn, HasPaths}
use Rattle.law_words_ends.proofs.Below.law_words_paths.paths.Alike.{IsShown, a_slot, an_object, leads_in_heap}
use Rattle.law_words_ends.proofs.Below.law_words_paths.paths.Shown.{object_shown}
use Rattle.law_words_ends.specs.Below.law_words_kept.reads.Reading.{lends}
use Rattle.law_words_ends.specs.Below.law_words_paths.words.Reworded.{HasPlaces}
use Rattle.law_words_ends.proofs.Below.law_heap_still.events.Told.{told, same_told}
use Rattle.law_walks_others.specs.Below.law_counts_waiting.waits.Places.{Follows, reads, LeadsAsItDid}
use Rattle.law_walks_others.proofs.pointers.Cells.{Seeing, cell_weight}
use Rattle.law_walks_others.proofs.pointers.Tests.{same_value, values}
use Rattle.law_walks_own.proofs.taken.Landed.{new, Lands, gain, loss, Ends, gets_there, takes_there, Comes}
use Rattle.law_walks_own.proofs.taken.After.{Stays, others_stay, cell_then, cell_kept}
use Rattle.law_walks_own.proofs.taken.Words.{one_word, in_a_slot, in_a_cell}
use Rattle.law_words_ends.specs.Below.coherent_memory.Coherent.{Holds, are_issued}

false_one : (b : Bool) → one b ≡ 0 → b ≡ false
false_one false e = refl
false_one true e = absurd (cc e)

-- it isn't true
untrue : (b : Bool) → (b ≡ true → ⊥) → b ≡ false
untrue true f = absurd (f refl)
untrue false f = refl

-- only in `Taken` something is said
pub idle : (s : Rattle.law_words_ends.specs.Below.coherent_memory.Sight.Sight) (x : Standing) (q : Phase) → ((w : ℕ) → q ≡ phase.Taken w → old_word s x (phase.Taken w) ≡ 0) → old_word s x q ≡ 0
idle s x (phase.Taken w) f = f w refl
idle s x phase.Ready f = refl
idle s x phase.Got f = refl
idle s x (phase.WaitCell w) f = refl
idle s x (phase.WaitLock m) f = refl
idle s x (phase.WaitDup m) f = refl
idle s x (phase.WaitJoin u) f = refl
idle s x (phase.WaitPar a b) f = refl
idle s x (phase.GotPar a b) f = refl
idle s x phase.Over f = refl

-- the pointer that is followed last
abbrev LastIsNot : (z : Cluster) → ℕ → Lval → ℕ → Type 0
LastIsNot z t p w = (m : ℕ) → p.depth ≡ suc m → has_word w (hop_at (sight z).ground t p m) ≡ false

last_not : (z : Cluster) (x : Standing) (w : ℕ) (p : Lval) → LastIsNot z x.thread.number p w → taken_again (sight z) x w (Some p) ≡ 0
last_not z x w p f = by p.depth refl
  where
    by : (d : ℕ) → p.depth ≡ d → one (last_hop (sight z) x w p d) ≡ 0
    by zero e = refl
    by (suc m) e = ap one (f m e)

last_was : (z : Cluster) (x : Standing) (w : ℕ) (p : Lval) → taken_again (sight z) x w (Some p) ≡ 0 → LastIsNot z x.thread.number p w
last_was z x w p e m deep = false_one (has_word w (hop_at (sight z).ground x.thread.number p m)) (sym (ap (λ d. one (last_hop (sight z) x w p d)) deep) ∙ e)

module _ (k z : Cluster) (before : HasPlaces k) (after : HasPlaces z) (cs : List Instr) (s : Server) (old t : ℕ) (c : Cell) (y : ThreadState) (comes : Comes cs s old t c y (things_of k) (things_of z)) (all : Holds k are_issued) (new_is : issued (sight k) (new cs s old t c y) ≡ false) (paths : HasPaths k) (code : z.code ≡ k.code) where
  abbrev G : Ground
  G = (sight k).ground

  abbrev G2 : Ground
  G2 = (sight z).ground

  abbrev w1 : ℕ
  w1 = new cs s old t c y

  at_instr : (x : Standing) → instr_of (sight z) x ≡ instr_of (sight k) x
  at_instr x = ap (λ is. slice_get is x.thread.pc) code

  -- WHERE A PLACE LEADS

  slots_same : (x u : Standing) → thread_at G.threads x.thread.number ≡ Some x → thread_at G2.threads x.thread.number ≡ Some u → u.thread.slots ≡ x.thread.slots → (i : ℕ) → value_in G2 (at_slot x.thread.number i) ≡ value_in G (at_slot x.thread.number i)
  slots_same x u a b e i = ap (λ o. slot_of o i) b ∙ ap (λ vs. slice_get vs i) e ∙ sym (ap (λ o. slot_of o i) a)

  told_slots : (x u : Standing) → thread_at G.threads x.thread.number ≡ Some x → thread_at G2.threads x.thread.number ≡ Some u → ((g : Standing → ℕ) → g u ≡ g x) → (i : ℕ) → value_in G2 (at_slot x.thread.number i) ≡ value_in G (at_slot x.thread.number i)
  told_slots x u a b same i = ap (λ o. slot_of o i) b ∙ same_told same_value values (slice_get u.thread.slots i) (slice_get x.thread.slots i) (λ f. same (λ q. told f (slice_get q.thread.slots i))) ∙ sym (ap (λ o. slot_of o i) a)

  -- a pointer there has its word, or the new one
  abbrev WordThen : Location → Type 0
  WordThen l = (value_in G2 l ≡ value_in G l) ⊎ (has_word w1 (value_in G2 l) ≡ true)

  in_cells : (x : Standing) (g : GoesOn k x) (o : ObjNo) (d : Cell) → cell_of G.cells o ≡ Some d → WordThen (in_cell o)
  in_cells x g o d there = let r = cell_then k z before after cs s old t c y comes o d there in by r.cell r.there r.has
    where
      by : (e : Cell) → cell_of G2.cells o ≡ Some e → (e.value ≡ d.value) ⊎ (has_word w1 (Some (value.Own e.value)) ≡ true) → WordThen (in_cell o)
      by e h (inl same) = inl (ap value_of h ∙ ap (λ v. Some (value.Own v)) same ∙ sym (ap value_of there))
      by e h (inr is) = inr (ap (has_word w1) (ap value_of h) ∙ is)

  shown_then : (x : Standing) (g : GoesOn k x) → ((i : ℕ) → value_in G2 (at_slot x.thread.number i) ≡ value_in G (at_slot x.thread.number i)) → (l : Location) → IsShown k paths x g l → WordThen l
  shown_then x g slots _ (a_slot i) = inl (slots i)
  shown_then x g slots _ (an_object o v e) = by (object_value (sight k) o) refl e
    where
      by : (q : Option Plain) → object_value (sight k) o ≡ q → seen_cell paths.types.typing.gives q ≡ Some v → WordThen (in_cell o)
      by None q f = absurd (cc f)
      by (Some a) q f = let b = object_shown (sight k) o a q in in_cells x g o b.0 b.1

  -- a word that was issued, which a pointer hadn't, it hasn't then
  pub hasnt_then : (x : Standing) (g : GoesOn k x) → ((i : ℕ) → value_in G2 (at_slot x.thread.number i) ≡ value_in G (at_slot x.thread.number i)) → (w : ℕ) → issued (sight k) w ≡ true → (slot m : ℕ)
      → has_word w (value_behind G (locate G x.thread.number slot m)) ≡ false → has_word w (value_behind G2 (locate G x.thread.number slot m)) ≡ false
  hasnt_then x g slots w known slot m none = by (locate G x.thread.number slot m) refl none
    where
      by : (o : Option Location) → locate G x.thread.number slot m ≡ o → has_word w (value_behind G o) ≡ false → has_word w (value_behind G2 o) ≡ false
      by None e n = n
      by (Some l) e n = either (shown_then x g slots l (leads_in_heap k paths x g slot m l e).1)
        where
          either : WordThen l → has_word w (value_in G2 l) ≡ false
          either (inl same) = ap (has_word w) same ∙ n
          either (inr is) = untrue (has_word w (value_in G2 l)) (λ h. (let same : w ≡ w1 = one_word w w1 (value_in G2 l) h is in let no : true ≡ false = sym known ∙ ap (issued (sight k)) same ∙ new_is in absurd (cc no)))

  -- who has taken something, where the pointer that was followed last hasn't that word now
  taken_so : (x : Standing) → ((p : Lval) → Follows k x p → LeadsAsItDid k z x.thread.number p) → (w : ℕ)
      → ((p : Lval) → instr_of (sight k) x ≡ Some (instr.BorrowMut p) → (m : ℕ) → p.depth ≡ suc m → has_word w (value_behind G2 (locate G x.thread.number p.slot m)) ≡ false) → old_word (sight z) x (phase.Taken w) ≡ 0
  taken_so x leads_so w last = ap (λ i. taken_again (sight z) x w (lent_place i)) (at_instr x) ∙ by (instr_of (sight k) x) refl
    where
      borrows_it : (p : Lval) → instr_of (sight k) x ≡ Some (instr.BorrowMut p) → taken_again (sight z) x w (Some p) ≡ 0
      borrows_it p e = last_not z x w p (λ m deep. ap (λ o. has_word w (value_behind G2 o)) (leads_so p (reads (instr.BorrowMut p) m e (lends deep)) m (omega (arith, deep))) ∙ last p e m deep)

      by : (i : Option Instr) → instr_of (sight k) x ≡ i → taken_again (sight z) x w (lent_place i) ≡ 0
      by (Some (instr.BorrowMut p)) e = borrows_it p e
      by None e = refl
      by (Some (instr.Let o)) e = refl
      by (Some (instr.Assign p o)) e = refl
      by (Some (instr.Read p b)) e = refl
      by (Some (instr.Borrow p)) e = refl
      by (Some (instr.Box o)) e = refl
      by (Some (instr.Arith f a b)) e = refl
      by (Some (instr.Print o)) e = refl
      by (Some instr.Discard) e = refl
      by (Some instr.DropSlot) e = refl
      by (Some (instr.Spawn cs pc)) e = refl
      by (Some (instr.Join o)) e = refl
      by (Some (instr.Mutex o)) e = refl
      by (Some (instr.Dup p)) e = refl
      by (Some (instr.Lock p)) e = refl
      by (Some instr.Unlock) e = refl
      by (Some (instr.Par cs pc ds other)) e = refl
      by (Some instr.ParEnd) e = refl
      by (Some (instr.End o)) e = refl

  -- WHO HAD TAKEN SOMETHING

  pub had_taken : (x : Standing) (g : GoesOn k x) → thread_at G.threads x.thread.number ≡ Some x → (x.thread.number ≡ t → ⊥) → ((p : Lval) → Follows k x p → LeadsAsItDid k z x.thread.number p)
      → (w : ℕ) → issued (sight k) w ≡ true → old_word (sight k) x (phase.Taken w) ≡ 0 → old_word (sight z) x (phase.Taken w) ≡ 0
  had_taken x g there ne leads_so w known none =
      let u : Stays z x = others_stay k z before after cs s old t c y comes x there ne in
      taken_so x leads_so w (λ p e m deep.
      hasnt_then x g (told_slots x u.standing there u.found u.same) w known p.slot m
      (last_was k x w p (sym (ap (λ i. taken_again (sight k) x w (lent_place i)) e) ∙ none) m deep))

  -- WHO TAKES IT

  module _ (x : Standing) (g : GoesOn k x) (there : thread_at G.threads x.thread.number ≡ Some x) (slots : (i : ℕ) → value_in G2 (at_slot x.thread.number i) ≡ value_in G (at_slot x.thread.number i))
      (kept : (w : (see : Seeing) × Lands cs s old t c y see) → tot (cell_weight w.0) (things_of k) + gain cs s old t c y w.0 ≤ tot (cell_weight w.0) (things_of z) + loss cs s old t c y w.0) where
    abbrev Old : Location → Type 0
    Old l = has_word w1 (value_in G2 l) ≡ false

    unknown : (v : Option Value) → (has_word w1 v ≡ true → issued (sight k) w1 ≡ true) → has_word w1 v ≡ false
    unknown v f = untrue (has_word w1 v) (λ h. (let no : true ≡ false = sym (f h) ∙ new_is in absurd (cc no)))

    slot_old : (v : Option Value) (i : ℕ) → value_in G (at_slot x.thread.number i) ≡ v → has_word w1 v ≡ false
    slot_old None i e = refl
    slot_old (Some v) i e = unknown (Some v) (λ h. in_a_slot k all x.thread.number i w1 v e h)

    cell_old : (o : ObjNo) (d : Cell) → cell_of G.cells o ≡ Some d → Old (in_cell o)
    cell_old o d e = let r = cell_kept k z before after cs s old t c y comes o d e kept in by r.cell r.there r.has
      where
        by : (b : Cell) → cell_of G2.cells o ≡ Some b → (b.value ≡ d.value) ⊎ (false ≡ true) → Old (in_cell o)
        by b h (inl same) = ap (has_word w1) (ap value_of h ∙ ap (λ v. Some (value.Own v)) same) ∙ unknown (Some (value.Own d.value)) (λ q. in_a_cell k all o w1 d e q)
        by b h (inr is) = absurd (cc is)

    shown_old : (l : Location) → IsShown k paths x g l → Old l
    shown_old _ (a_slot i) = ap (has_word w1) (slots i) ∙ slot_old (value_in G (at_slot x.thread.number i)) i refl
    shown_old _ (an_object o v e) = by (object_value (sight k) o) refl e
      where
        by : (q : Option Plain) → object_value (sight k) o ≡ q → seen_cell paths.types.typing.gives q ≡ Some v → Old (in_cell o)
        by None q f = absurd (cc f)
        by (Some a) q f = let b = object_shown (sight k) o a q in cell_old o b.0 b.1

    pub takes_new : ((p : Lval) → Follows k x p → LeadsAsItDid k z x.thread.number p) → old_word (sight z) x (phase.Taken w1) ≡ 0
    takes_new leads_so = taken_so x leads_so w1 (λ p e m deep. by (locate G x.thread.number p.slot m) p m refl)
      where
        by : (o : Option Location) (p : Lval) (m : ℕ) → locate G x.thread.number p.slot m ≡ o → has_word w1 (value_behind G2 o) ≡ false
        by None p m e = refl
        by (Some l) p m e = shown_old l (leads_in_heap k paths x g p.slot m l e).1

  -- the thread that was answered
  pub own_new : (x : Standing) (g : GoesOn k x) → x.thread ≡ y → thread_at G.threads x.thread.number ≡ Some x → x.thread.number ≡ t → ((p : Lval) → Follows k x p → LeadsAsItDid k z x.thread.number p)
      → (u : ThreadState) → Ends cs s old t c y u (things_of k) (things_of z) → u.number ≡ t → Stays z (record { server = s.rest.number; packed = false; thread = u }) → old_word (sight z) (record { server = s.rest.number; packed = false; thread = u }) u.phase ≡ 0
  own_new x g is there number leads_so u (gets_there got m) numbered st = subst (λ q. old_word (sight z) (record { server = s.rest.number; packed = false; thread = u }) q ≡ 0) (sym got) refl
  own_new x g is there number leads_so u (takes_there untold takes m) numbered st =
      subst (λ (v : ThreadState). Stays z (record { server = s.rest.number; packed = false; thread = v }) → old_word (sight z) (record { server = s.rest.number; packed = false; thread = v }) v.phase ≡ 0) (sym takes) (λ st2. by x g is there leads_so st2) st
    where
      by : (x : Standing) (g : GoesOn k x) → x.thread ≡ y → thread_at G.threads x.thread.number ≡ Some x → ((p : Lval) → Follows k x p → LeadsAsItDid k z x.thread.number p) → Stays z (record { server = s.rest.number; packed = false; thread = record y { phase = phase.Taken w1 } })
          → old_word (sight z) (record { server = s.rest.number; packed = false; thread = record y { phase = phase.Taken w1 } }) (phase.Taken w1) ≡ 0
      by x g is there leads_so st2 = same (takes_new x g there slots m leads_so)
        where
          slots : (i : ℕ) → value_in G2 (at_slot x.thread.number i) ≡ value_in G (at_slot x.thread.number i)
          slots i =
              let found2 : thread_at G2.threads x.thread.number ≡ Some st2.standing = ap (λ (q : ThreadState). thread_at G2.threads q.number) is ∙ st2.found in
              ap (λ o. slot_of o i) found2
              ∙ same_told same_value values (slice_get st2.standing.thread.slots i) (slice_get y.slots i) (λ f. st2.same (λ q. told f (slice_get q.thread.slots i)))
              ∙ sym (ap (λ o. slot_of o i) there ∙ ap (λ (q : ThreadState). slice_get q.slots i) is)

          same : old_word (sight z) x (phase.Taken w1) ≡ 0 → old_word (sight z) (record { server = s.rest.number; packed = false; thread = record y { phase = phase.Taken w1 } }) (phase.Taken w1) ≡ 0
          same e = as_instr (instr_of (sight z) x) refl e
            where
              number_is : x.thread.number ≡ y.number
              number_is = ap (λ (q : ThreadState). q.number) is

              pc_is : x.thread.pc ≡ y.pc
              pc_is = ap (λ (q : ThreadState). q.pc) is

              as_instr : (i : Option Instr) → instr_of (sight z) x ≡ i → taken_again (sight z) x w1 (lent_place i) ≡ 0 → taken_again (sight z) (record { server = s.rest.number; packed = false; thread = record y { phase = phase.Taken w1 } }) w1 (lent_place (slice_get z.code y.pc)) ≡ 0
              as_instr i e2 f =
                  ap (λ j. taken_again (sight z) (record { server = s.rest.number; packed = false; thread = record y { phase = phase.Taken w1 } }) w1 (lent_place j)) (sym (ap (slice_get z.code) pc_is) ∙ e2) ∙ by_place (lent_place i) f
                where
                  by_place : (o : Option Lval) → taken_again (sight z) x w1 o ≡ 0 → taken_again (sight z) (record { server = s.rest.number; packed = false; thread = record y { phase = phase.Taken w1 } }) w1 o ≡ 0
                  by_place None f2 = refl
                  by_place (Some p) f2 = by_depth p.depth f2
                    where
                      by_depth : (d : ℕ) → one (last_hop (sight z) x w1 p d) ≡ 0 → one (last_hop (sight z) (record { server = s.rest.number; packed = false; thread = record y { phase = phase.Taken w1 } }) w1 p d) ≡ 0
                      by_depth zero f3 = refl
                      by_depth (suc m2) f3 = ap (λ n. one (has_word w1 (hop_at (sight z).ground n p m2))) (sym number_is) ∙ f3
