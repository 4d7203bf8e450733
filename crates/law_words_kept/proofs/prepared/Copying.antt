-- The copy of a place: done or not, it keeps the words, as no place leads to the copy on top.
use Rattle.std.proofs.Common.{◌≡◌, inl, inr, ℕ, zero, suc, ◌+◌, Bool, true, false, if◌then◌else◌, List, [], ◌∷◌, ◌++◌, Option, Some, None, option_map, refl, sym, subst, arith}
use Rattle.std.specs.Prelude.{⊤, slice_get}
use Rattle.law_words_kept.specs.Below.fr_base.declared.place.Lval.{Lval}
use Rattle.law_words_kept.specs.Below.fr_base.declared.instruction.Instr.{Instr}
use Rattle.law_words_kept.specs.Below.fr_base.declared.instruction.Instr.TheVariants as instr
use Rattle.law_words_kept.specs.Below.heap_partition.declared.value.Cell.{Cell}
use Rattle.law_words_kept.specs.Below.mut_borrow.declared.shared.SharedRef.{SharedRef}
use Rattle.law_words_kept.specs.Below.journal.View.{EntryView}
use Rattle.law_words_kept.specs.Below.thread_state.View.{ThreadState}
use Rattle.law_words_kept.specs.Below.thread_state.declared.phase.Phase.TheVariants as phase
use Rattle.law_words_kept.specs.Below.thread_state.declared.value.Value.{Value}
use Rattle.law_words_kept.specs.Below.thread_state.declared.value.Value.TheVariants as value
use Rattle.law_words_kept.specs.Below.server_model.declared.event.What.TheVariants.{Step}
use Rattle.law_words_kept.specs.Below.server_model.Servers.{Server, Cluster, server_at}
use Rattle.law_words_kept.specs.Below.server_model.Work.{Hand, push_temp, thread_in, without_thread, then_some}
use Rattle.law_words_kept.specs.Below.server_model.Clusters.{apply}
use Rattle.law_words_kept.specs.Below.server_model.Places.{Spot, in_slot, in_cell, in_copy, owns_nothing, value_at, value_in as cell_value, cell_at, load_at, second_of}
use Rattle.law_words_kept.specs.Below.server_model.Prepare.{Prepared, ready, requested, nothing, read_stars}
use Rattle.law_words_kept.specs.Below.server_model.Commit.{goes_on, read, read_as, commit}
use Rattle.law_words_kept.specs.Below.server_model.Events.{enabled, begin_work, Stepped, committed, prepared, step, step_in, stepped, does}
use Rattle.law_words_kept.specs.Below.coherent_memory.Names.{Among}
use Rattle.law_words_kept.specs.Below.coherent_memory.Things.{Location, at_slot, Thing, shares, things_at, slot_things, temp_things, servers_things}
use Rattle.law_words_kept.specs.Below.coherent_memory.Sight.{sight}
use Rattle.law_words_kept.specs.Below.coherent_types.ClusterTypes.{IsCoherent}
use Rattle.law_words_kept.proofs.Below.law_words_paths.paths.Origins.{among_first, among_second}
use Rattle.law_words_kept.proofs.Below.law_words_paths.words.Standing.{standing_among}
use Rattle.law_words_kept.specs.Below.law_counts_sums.Laws.{Gives}
use Rattle.law_words_kept.proofs.Below.law_counts_sums.Results.{then_gives, map_gives, over_gives, both_give, weaker}
use Rattle.law_words_kept.proofs.Below.law_counts_sums.RulesKeep.{sums_kept}
use Rattle.law_words_kept.proofs.Below.law_counts_sums.Bags.{all_standing, body_things}
use Rattle.law_words_kept.proofs.Below.law_counts_sums.Events.{others_of}
use Rattle.law_words_kept.proofs.Below.law_counts_sums.AllSteps.{commits}
use Rattle.law_words_kept.proofs.Below.law_counts_sums.Steps.{SteppedOk, committed_keeps}
use Rattle.law_words_kept.specs.reads.Reading.{copies}
use Rattle.law_words_kept.proofs.stays.Alike.{Alike, Within, Seen, itself, turned, chain, beside, joined, alone, seen_itself, within_both, within_first}
use Rattle.law_words_kept.proofs.stays.Threads.{slots_of, temps_of, values_alike}
use Rattle.law_words_kept.proofs.stays.Sites.{HandAlike}
use Rattle.law_words_kept.proofs.stays.Steps.{IsUnseen, shared_slot_unseen, owned_unseen, last_points, TakesNoneHere, Goes, pushes, goes_over, untaken_here}
use Rattle.law_words_kept.specs.prepared.Requests.{WordsRise, CopiesKeep}
use Rattle.law_words_kept.proofs.prepared.Untaken.{not_taken}
use Rattle.law_words_kept.proofs.prepared.Hands.{State, Walks, places, first_hand, unseen}
use Rattle.law_words_kept.proofs.prepared.Stars.{ReadsOk, Spotted, a_slot, a_cell, a_copy, stars_ok}
use Rattle.law_words_kept.proofs.prepared.Asking.{There, read_all, kept_where, found_number}

-- A SHARED REFERENCE ONCE MORE

-- its thing among those of the slots
slot_listed : (n t i : ℕ) (xs : List Value) (j : ℕ) (r : SharedRef) → slice_get xs j ≡ Some (value.Shared r) → (l : Location) × Among (shares l r) (things_at (slot_things n t) i xs)
slot_listed n t i [] j r e = absurd cc
slot_listed n t i (x ∷ xs) zero r e =
    let s : x ≡ value.Shared r = cc in
    (at_slot t i, among_first (shares (at_slot t i) r) (slot_things n t i x) (things_at (slot_things n t) (i + 1) xs) (subst (λ v. Among (shares (at_slot t i) r) (slot_things n t i v)) (sym s) (inl refl)))
slot_listed n t i (x ∷ xs) (suc j) r e = let q = slot_listed n t (i + 1) xs j r e in (q.0, among_second (shares q.0 r) (slot_things n t i x) (things_at (slot_things n t) (i + 1) xs) q.1)

-- the things of a value at the end
pub end_things : {code : List Instr} (f : ℕ → Value → List Thing) (i : ℕ) (xs : List Value) (v : Value) → (j : ℕ) × Alike code (things_at f i (xs ++ v ∷ [])) (things_at f i xs ++ f j v)
end_things f i [] v = (i, alone (f i v))
end_things f i (x ∷ xs) v = let q = end_things f (i + 1) xs v in (q.0, chain (beside (itself (f i x)) q.1) (joined (f i x) (things_at f (i + 1) xs) (f q.0 v)))

-- what is seen among others anyway
extra_seen : {code : List Instr} (a b : List Thing) → Within code b a → Alike code (a ++ b) a
extra_seen {code = code} a b w = record { on = within_both code a b a (λ y h. seen_itself code a y h) w; back = within_first code a a b (λ y h. seen_itself code a y h) }

shared_again : (code : List Instr) (l m : Location) (r : SharedRef) (a : List Thing) → Among (shares m r) a → Within code (shares l (record r { pinned = false }) ∷ []) a
shared_again code l m r a h y (inl e) = subst (λ z. Seen code a z) e (λ p n q. standing_among p (shares m r) a h q)
shared_again code l m r a h y (inr g) = absurd g

shared_pushed : (code : List Instr) (n j : ℕ) (r : SharedRef) (h : Hand) → slice_get h.thread.slots j ≡ Some (value.Shared r) → TakesNoneHere code h.thread → Goes code n h (push_temp (value.Shared (record r { pinned = false })) h)
shared_pushed code n j r h e none = record {
  alike = record {
    number = refl;
    named = refl;
    thread = values_alike n x z (record { number = refl; taking = refl; slots = λ i. refl; temps = last_points x.temps v refl }) values refl;
    rest = itself (body_things n h.work.rest);
  };
  untaken = none;
}
  where
    v : Value
    v = value.Shared (record r { pinned = false })

    x : ThreadState
    x = h.thread

    z : ThreadState
    z = record x { temps = x.temps ++ v ∷ [] }

    f : ℕ → Value → List Thing
    f = temp_things n x.number

    values : Alike code (slots_of n x ++ temps_of n x) (slots_of n x ++ things_at f 0 (x.temps ++ v ∷ []))
    values =
        let q = end_things {code = code} f 0 x.temps v in
        let m = slot_listed n x.number 0 x.slots j r e in
        let there : Among (shares m.0 r) (slots_of n x ++ temps_of n x) = among_first (shares m.0 r) (slots_of n x) (temps_of n x) m.1 in
        chain (turned (extra_seen (slots_of n x ++ temps_of n x) (f q.0 v) (shared_again code (Rattle.law_words_kept.specs.Below.coherent_memory.Things.at_temp x.number q.0) m.0 r (slots_of n x ++ temps_of n x) there)))
        (chain (turned (joined (slots_of n x) (temps_of n x) (f q.0 v))) (beside (itself (slots_of n x)) (turned q.1)))

no_shared_cell : (o : Option Cell) (r : SharedRef) → cell_value o ≡ Some (value.Shared r) → ⊥
no_shared_cell None r e = absurd cc
no_shared_cell (Some c) r e = absurd cc

module _ (k : Cluster) (coherent : IsCoherent k) (s : Server) (here : server_at k.servers s.rest.number ≡ Some s) (t : ℕ) (y : ThreadState) (at : thread_in s.threads t ≡ Some y)
    (on : enabled k.options s (Step t) ≡ true) (w : Lval) (code : slice_get k.code y.pc ≡ Some (instr.Read w false)) (free : (v : ℕ) → y.phase ≡ phase.Taken v → ⊥) where
  abbrev n : ℕ
  n = s.rest.number

  abbrev W : Hand → Type 0
  W = Walks k coherent s here t y at

  abbrev S : Hand → Type 0
  S = State k coherent s here t y at

  abbrev At : Spot → Type 0
  At sp = Spotted (sight k).ground y.number w.slot w.depth sp

  abbrev h0 : Hand
  h0 = record { work = begin_work s.rest; thread = y }

  abbrev Fine : Prepared → Type 0
  Fine = ReadsOk k coherent s here t y at on (instr.Read w false) code w w.depth (copies refl) w.depth

  none : TakesNoneHere k.code y
  none = untaken_here y.number y.phase (slice_get k.code y.pc) free

  followed : Fine (read_stars w.depth h0 (in_slot w.slot))
  followed = stars_ok k coherent s here t y at on (instr.Read w false) code w w.depth (copies refl) w.depth 0 h0 (in_slot w.slot) (omega arith) (record { state = first_hand k coherent s here t y at; untaken = λ e. e; gift = refl }) (a_slot w.slot refl)

  -- what is loaded is noted alone
  over_load : (sp : Spot) (h h2 : Hand) → Goes k.code n (load_at sp h) h2 → Goes k.code n h h2
  over_load sp h h2 g = record { alike = record { number = g.alike.number; named = g.alike.named; thread = g.alike.thread; rest = g.alike.rest }; untaken = g.untaken }

  plain_copy : (sp : Spot) (h : Hand) (u v : Value) → IsUnseen v → v ≡ u → W h → Goes k.code n h (push_temp u (load_at sp h))
  plain_copy sp h u v x e g = subst (λ q. Goes k.code n h (push_temp q (load_at sp h))) e (over_load sp h (push_temp v (load_at sp h)) (pushes k.code n (load_at sp h) v x (g.untaken none)))

  pushed : (sp : Spot) (h : Hand) (v u : Value) → value_at h sp ≡ Some v → second_of v ≡ Some u → W h → At sp → Goes k.code n h (push_temp u (load_at sp h))
  pushed sp h (value.Own o) u e q g a = by (owns_nothing o) refl q
    where
      by : (b : Bool) → owns_nothing o ≡ b → (if b then Some (value.Own o) else None) ≡ Some u → Goes k.code n h (push_temp u (load_at sp h))
      by true x f = plain_copy sp h u (value.Own o) (owned_unseen o x) (let z : value.Own o ≡ u = cc in z) g
      by false x f = absurd cc
  pushed sp h (value.SharedSlot i) u e q g a = plain_copy sp h u (value.SharedSlot i) (shared_slot_unseen i) (let z : value.SharedSlot i ≡ u = cc in z) g
  pushed _ h (value.Shared r) u e q g (a_slot j located) =
      let z : value.Shared (record r { pinned = false }) ≡ u = cc in
      subst (λ x. Goes k.code n h (push_temp x (load_at (in_slot j) h))) z (over_load (in_slot j) h (push_temp (value.Shared (record r { pinned = false })) (load_at (in_slot j) h)) (shared_pushed k.code n j r (load_at (in_slot j) h) e (g.untaken none)))
  pushed _ h (value.Shared r) u e q g (a_cell v through) = absurd (no_shared_cell (cell_at h (in_cell v through)) r e)
  pushed _ h (value.Shared r) u e q g (a_copy v) = absurd (no_shared_cell (cell_at h (in_copy v)) r e)
  pushed sp h (value.MutSlot i) u e q g a = absurd cc
  pushed sp h (value.Mut r) u e q g a = absurd cc
  pushed sp h value.Gone u e q g a = absurd cc
  pushed sp h (value.Held c) u e q g a = absurd cc

  copied : (sp : Spot) (h : Hand) → W h → At sp → Gives (λ (d : Stepped). S d.hand) (committed (goes_on (read false sp h)))
  copied sp h g a =
      both_give (SteppedOk sums_kept n s.events t (all_standing n (without_thread s.threads t) ++ servers_things (others_of k.servers n))) (λ (d : Stepped). HandAlike k.code n [] h d.hand) (λ (d : Stepped). S d.hand) (committed (goes_on (read false sp h)))
      (committed_keeps sums_kept n s.events t (all_standing n (without_thread s.threads t) ++ servers_things (others_of k.servers n)) (commit 0 (instr.Read w false) sp h)
      (commits sums_kept n s.events t (all_standing n (without_thread s.threads t) ++ servers_things (others_of k.servers n)) 0 (instr.Read w false) sp h tt (λ z. absurd z) g.state.ok))
      (goes_over k.code n h (read false sp h)
      (then_gives (Goes k.code n h) (value_at h sp) (λ v. read_as false sp v (load_at sp h)) (λ v e. map_gives (Goes k.code n h) (second_of v) (λ u. push_temp u (load_at sp h)) (λ u q. pushed sp h v u e q g a))))
      (λ d b c. unseen k coherent s here t y at h d.hand g.state b c)

  prepared_copy : (servers : ℕ) (x : Prepared) → Fine x → Gives (λ (d : Stepped). S d.hand) (prepared servers (instr.Read w false) x)
  prepared_copy servers (ready h sp) g = copied sp h g.0 g.1
  prepared_copy servers (requested h) g = let q = g none in record { ok = record { number = q.ok.number; thread = q.ok.thread; bag = q.ok.bag }; along = q.along }
  prepared_copy servers nothing g = tt

  stepped_copy : (servers : ℕ) → Gives (λ (d : Stepped). S d.hand) (step servers (instr.Read w false) h0)
  stepped_copy servers =
      subst (λ x. Gives (λ (d : Stepped). S d.hand) (prepared servers (instr.Read w false) x)) (sym (read_all w w.depth h0)) (prepared_copy servers (read_stars w.depth h0 (in_slot w.slot)) followed)

  pub server_copies : Gives (There (λ v. ⊤) k s) (does k.code k.options s (Step t))
  server_copies =
      subst (λ o. Gives (There (λ v. ⊤) k s) (option_map (stepped s) (then_some (option_map (λ v. record { work = begin_work s.rest; thread = v }) o) (step_in k.code k.options.servers)))) (sym at)
      (subst (λ o. Gives (There (λ v. ⊤) k s) (option_map (stepped s) (then_some o (λ j. step k.options.servers j h0)))) (sym code)
      (over_gives (λ (d : Stepped). S d.hand) (There (λ v. ⊤) k s) (step k.options.servers (instr.Read w false) h0) (stepped s) (stepped_copy k.options.servers) (λ d g q. (g.along, places k coherent s here t y at d.hand g.ok))))

pub copies_keep : CopiesKeep
copies_keep k number t s y w coherent few here at code =
    subst (λ c. server_at k.servers c ≡ Some s → Gives (λ (d : Cluster × EntryView). WordsRise k d.0) (apply k (record { server = c; what = Step t }))) (found_number number k.servers s here)
    (λ h.
    weaker (λ (d : Cluster × EntryView). ⊤ → WordsRise k d.0) (λ (d : Cluster × EntryView). WordsRise k d.0) (apply k (record { server = s.rest.number; what = Step t }))
    (kept_where k s t (λ v. ⊤) coherent few h (λ on. server_copies k coherent s h t y at on w code (not_taken k coherent.sound number s here t y at (instr.Read w false) code refl))) (λ d a. a tt)) here
