-- A `drop` at its server: the object leaves its address, and what it owned is dropped, beside all else.
use Rattle.std.proofs.Common.{◌≡◌, ◌≤◌, ℕ, zero, suc, ◌+◌, nat_lt, Bool, true, false, if◌then◌else◌, List, [], ◌∷◌, ◌++◌, Option, Some, None, option_map, refl, sym, ap, subst, arith}
use Rattle.std.specs.Prelude.{slice_get, slice_set, length, take, drop as drop_first}
use Rattle.law_results_reads.specs.Below.fr_base.declared.instruction.Instr.{Instr}
use Rattle.law_results_reads.specs.Below.fr_base.declared.name.ObjNo.{ObjNo}
use Rattle.law_results_reads.specs.Below.global_addr.Words.{address_of, colour_of}
use Rattle.law_results_reads.specs.Below.heap_partition.declared.value.Cell.{Cell}
use Rattle.law_results_reads.specs.Below.owner_box.View.{PartitionState}
use Rattle.law_results_reads.specs.Below.owner_box.Partition.{freed}
use Rattle.law_results_reads.specs.Below.journal.View.{EntryView}
use Rattle.law_results_reads.specs.Below.journal.declared.act.Act.TheVariants as act
use Rattle.law_results_reads.specs.Below.server_msgs.declared.message.Message.{Message}
use Rattle.law_results_reads.specs.Below.server_msgs.declared.message.Message.TheVariants as message
use Rattle.law_results_reads.specs.Below.server_model.declared.event.Event.{Event}
use Rattle.law_results_reads.specs.Below.server_model.declared.event.What.TheVariants.{Deliver}
use Rattle.law_results_reads.specs.Below.server_model.Servers.{Rest, Server, Cluster, server_at}
use Rattle.law_results_reads.specs.Below.server_model.Work.{Work, Site, look, look_object, receive, then_some, note, with_partition}
use Rattle.law_results_reads.specs.Below.server_model.Drop.{give_up}
use Rattle.law_results_reads.specs.Below.server_model.Events.{enabled, does, left_by, received, deliver, deliver_message}
use Rattle.law_results_reads.specs.Below.server_model.Clusters.{with_server, hand_over_newer, done_at, apply}
use Rattle.law_results_reads.specs.Below.coherent_memory.Names.{Among, tot, one, same_object}
use Rattle.law_results_reads.specs.Below.coherent_memory.Things.{Thing, holds, in_hand, lies, vacant, retired, sent, things_at, copy_things, mutex_things, task_things, message_things, leaving_things, waiting_things, cell_things, server_things, servers_things, things_of}
use Rattle.law_results_reads.specs.Below.coherent_memory.Coherent.{IsSound}
use Rattle.law_results_reads.specs.Below.coherent_memory.Weights.{cells, drops}
use Rattle.law_results_reads.proofs.Below.coherent_memory.Sums.{server_parts}
use Rattle.law_results_reads.proofs.Below.coherent_memory.Words.{itself as same_itself, named}
use Rattle.law_results_reads.specs.Below.coherent_types.ClusterTypes.{IsCoherent}
use Rattle.law_words_values.specs.Below.law_words_paths.words.Reworded.{HasPlaces}
use Rattle.law_words_values.specs.Below.law_words_paths.words.Unmoved.{LeavesWords}
use Rattle.law_results_reads.specs.Below.law_counts_sums.Laws.{Gives, GoTo, FewEvents}
use Rattle.law_results_reads.proofs.Below.law_counts_sums.Results.{over_gives, test_gives, both_give}
use Rattle.law_results_reads.proofs.Below.law_counts_sums.Bags.{all_standing, body_things}
use Rattle.law_results_reads.proofs.Below.law_counts_sums.Cells.{left_by as place_left, looked, frees}
use Rattle.law_results_reads.proofs.Below.law_counts_sums.Events.{tot-server}
use Rattle.law_results_reads.proofs.Below.law_counts_sums.MutexResults.{has}
use Rattle.law_results_reads.proofs.Below.law_counts_sums.ObjectMessages.{looked_object}
use Rattle.law_results_reads.proofs.Below.law_counts_sums.Applied.{go_with}
use Rattle.law_results_reads.proofs.Below.law_counts_sums.Sending.{applied_part, each_event_sends}
use Rattle.law_results_reads.proofs.Below.law_counts_sums.Trades.{tot-remove}
use Rattle.law_words_values.proofs.Below.law_words_kept.reads.Flights.{truly}
use Rattle.law_results_reads.proofs.Flights.{weighs}
use Rattle.law_heap_still.proofs.events.Addresses.{in_place, lies_alone}
use Rattle.law_heap_still.proofs.events.Leaving.{others, placed_here}
use Rattle.law_words_values.proofs.Below.law_words_kept.stays.Alike.{Alike, itself, turned, chain, beside, in_front, goes}
use Rattle.law_words_values.proofs.Below.law_words_kept.stays.Servers.{held, server_body, receives, given_up}
use Rattle.law_words_values.proofs.Below.law_words_kept.stays.Sites.{ends_alike, servers_alike, replaced, handed_over}
use Rattle.law_words_values.proofs.carried.Hands.{rooted}
use Rattle.law_words_values.proofs.carried.Leaving.{one_cell, all_cells, none_blank, free_blank}
use Rattle.law_words_values.specs.freed.Drops.{DropsLeave}
use Rattle.law_words_values.proofs.freed.Going.{freed_leaves}
use Rattle.law_words_values.proofs.freed.Lists.{NoneLeads, is_freed}
use Rattle.law_words_values.proofs.freed.Unled.{none_leads}

-- THE PARTITION

cell_leaves : {code : List Instr} (s : ℕ) (f g : List (ℕ × ℕ)) (i j : ℕ) (xs : List (Option Cell)) (c : Cell) → slice_get xs j ≡ Some (Some c)
    → (a : ℕ) × Alike code (things_at (cell_things s f) i xs) (lies s a c ∷ things_at (cell_things s g) i (slice_set xs j None))
cell_leaves s f g i j [] c e = absurd cc
cell_leaves {code = code} s f g i zero (x ∷ xs) c e =
    let is : x ≡ Some c = cc in (
      i,
      subst (λ y. Alike code (cell_things s f i y ++ things_at (cell_things s f) (i + 1) xs) (lies s i c ∷ (cell_things s g i None ++ things_at (cell_things s g) (i + 1) xs))) (sym is)
          (beside {a = lies s i c ∷ []} {b = lies s i c ∷ []} (itself (lies s i c ∷ [])) (chain (all_cells s f g (i + 1) xs) (turned (goes (none_blank s g i))))),
    )
cell_leaves s f g i (suc j) (x ∷ xs) c e =
    let q = cell_leaves s f g (i + 1) j xs c e in
    (q.0, chain (beside (one_cell s f g i x) q.1) (in_front (cell_things s g i x) (lies s q.0 c ∷ []) (things_at (cell_things s g) (i + 1) (slice_set xs j None))))

body_leaves : {code : List Instr} (n w : ℕ) (r : Rest) (c : Cell) → look r.partition w ≡ Some c → (a : ℕ) × Alike code (body_things n r) (lies n a c ∷ body_things n (record r { partition = freed r.partition w }))
body_leaves n w r c e =
    let p = r.partition in
    let q = cell_leaves n p.free (freed p w).free 0 (address_of w) p.cells c (looked p w c e) in
    let part = beside q.1 (chain (free_blank n 0 p.free) (turned (free_blank n 0 (freed p w).free))) in
    (q.0, beside (beside (beside (beside (beside part (itself (things_at (copy_things n) 0 r.cache))) (itself (things_at (mutex_things n) 0 r.mutexes.there))) (itself (things_at (task_things n) 0 r.tasks))) (itself (things_at (waiting_things n) 0 r.inbox))) (itself (things_at leaving_things 0 r.outbox)))

-- THE SERVER

-- the object was at its server, and what it owned is in hand afterwards; no other cell of it was at that server
pub record Goes (code : List Instr) (w : ℕ) (o : ObjNo) (s : Server) (d : Server × EntryView) : Type 0 where
  pub cell : Cell
  pub address : ℕ
  pub mid : Server
  pub object : cell.object ≡ o
  pub before : Alike code (server_things s) (sent s.rest.number (message.Drop w o) ∷ lies s.rest.number address cell ∷ server_things mid)
  pub after : Alike code (server_things d.0) (holds in_hand cell.value ∷ server_things mid)
  pub fewer : tot (cells o) (server_things mid) + 1 ≤ tot (cells o) (server_things s)

module _ (k : Cluster) (sound : IsSound k) (number : ℕ) (s : Server) (here : server_at k.servers number ≡ Some s) (i w : ℕ) (o : ObjNo) (q : slice_get s.rest.inbox i ≡ Some (message.Drop w o)) where
  abbrev n : ℕ
  n = s.rest.number

  abbrev r1 : Rest
  r1 = receive s.rest i

  abbrev p : PartitionState
  p = s.rest.partition

  -- the server with neither
  abbrev left : Server
  left = record { rest = record r1 { partition = freed p w }; threads = s.threads; events = s.events + 1 }

  none_left : cells o (place_left n p.limit w) ≡ 0
  none_left = by (nat_lt (colour_of w + 1) p.limit)
    where
      by : (b : Bool) → cells o (if b then vacant n (address_of w) (colour_of w + 1) else retired n (address_of w)) ≡ 0
      by true = refl
      by false = refl

  counted : (c : Cell) → look p w ≡ Some c → c.object ≡ o → tot (cells o) (server_things left) + 1 ≤ tot (cells o) (server_things s)
  counted c e f =
      let g = cells o in
      let at : slice_get p.cells (address_of w) ≡ Some (Some c) = looked p w c e in
      let free = lies_alone n p (in_place n s.events s.rest (others k sound number s here) (placed_here k sound number s here)) (address_of w) c at in
      let t = frees n p w c at free in
      let heavy : g (lies n (address_of w) c) ≡ 1 = ap one (same_itself c.object o f) in
      let inbox = tot-remove (λ y. message_things n y) g 0 s.rest.inbox i (message.Drop w o) q in
      omega (arith, server_parts g s, server_parts g left, t.before g, t.after g, none_left, heavy, inbox)

  goes_with : (c : Cell) → look p w ≡ Some c → c.object ≡ o → Goes k.code w o s (left_by s.events None None (record { work = give_up c.value (note (act.Free o w) (with_partition (freed p w) (received i s).work)); threads = s.threads }))
  goes_with c e f =
      let all = all_standing n s.threads in
      let m = message.Drop w o in
      let r2 : Rest = left.rest in
      let w2 : Work = note (act.Free o w) (with_partition (freed p w) (received i s).work) in
      let site : Site = record { work = give_up c.value w2; threads = s.threads } in
      let q1 = body_leaves {code = k.code} n w r1 c e in
      let up = given_up {code = k.code} n (held c.value ++ body_things n r2) c.value w2 refl (itself (held c.value ++ body_things n r2)) in
      let hand = sent n m ∷ lies n q1.0 c ∷ [] in
      let come : Alike k.code (body_things n s.rest) (hand ++ body_things n r2) = chain (receives n s.rest i m q) (beside {a = sent n m ∷ []} {b = sent n m ∷ []} (itself (sent n m ∷ [])) q1.1) in record {
        cell = c;
        address = q1.0;
        mid = left;
        object = f;
        before = chain (server_body s) (chain (beside (itself all) come) (chain (in_front all hand (body_things n r2)) (beside (itself hand) (turned (server_body left)))));
        after =
            chain (turned (ends_alike n s.events None None site up.number)) (chain (beside (itself all) (turned up.alike)) (chain (in_front all (held c.value) (body_things n r2)) (beside (itself (held c.value)) (turned (server_body left)))));
        fewer = counted c e f;
      }

  pub server_goes : Gives (Goes k.code w o s) (does k.code k.options s (Deliver i))
  server_goes =
      over_gives (λ (x : Site). Goes k.code w o s (left_by s.events None None x)) (Goes k.code w o s) (deliver k.code i s) (left_by s.events None None)
      (subst (λ x. Gives (λ (x : Site). Goes k.code w o s (left_by s.events None None x)) (then_some x (λ m. deliver_message k.code m (received i s)))) (sym q) (by (look_object p w o) refl)) (λ x g. g)
    where
      by : (x : Option Cell) → look_object p w o ≡ x → Gives (λ (x : Site). Goes k.code w o s (left_by s.events None None x))
          (option_map (λ v. record (received i s) { work = v }) (option_map (λ c. give_up c.value (note (act.Free o w) (with_partition (freed p w) (received i s).work))) x))
      by None e = tt
      by (Some c) e = let l = looked_object p w o c e in goes_with c l.0 l.1

  -- ITS MESSAGE IS THERE

  abbrev dropped : Thing → ℕ
  dropped (sent r m) = drops o m
  dropped x = 0

  is_drop : (m : Message) → 1 ≤ drops o m → (v : ℕ) × (m ≡ message.Drop v o)
  is_drop (message.Drop v x) l = (v, ap (message.Drop v) (named x o (truly (same_object x o) l)))
  is_drop _ l = absurd (omega (arith, l))

  pub message_there : (r v : ℕ) × Among (sent r (message.Drop v o)) (things_of k)
  message_there = by f.0 f.1 f.2
    where
      some : 1 ≤ tot dropped (things_of k)
      some = let a : drops o (message.Drop w o) ≡ 1 = ap one (same_itself o o refl) in omega (arith, a, has k sound number s here i (message.Drop w o) q dropped)

      f : (x : Thing) × Among x (things_of k) × (1 ≤ dropped x)
      f = weighs dropped (things_of k) some

      by : (x : Thing) → Among x (things_of k) → 1 ≤ dropped x → (r v : ℕ) × Among (sent r (message.Drop v o)) (things_of k)
      by (sent r m) h l = let d = is_drop m l in (r, d.0, subst (λ y. Among (sent r y) (things_of k)) d.1 h)
      by _ h l = absurd (omega (arith, l))

-- IN ITS CLUSTER

module _ (k : Cluster) (e : Event) (w : ℕ) (o : ObjNo) (coherent : IsCoherent k) (few : FewEvents k) (i : ℕ) (s : Server) (here : server_at k.servers e.server ≡ Some s) (q : slice_get s.rest.inbox i ≡ Some (message.Drop w o)) where
  abbrev sound : IsSound k
  sound = coherent.sound

  handed : (p : Option (Server × EntryView)) → Gives (Goes k.code w o s) p → Gives (λ (r : Server × EntryView). GoTo (with_server k.servers e.server r.0) (drop_first (length s.rest.outbox) r.0.rest.outbox)) p
      → Gives (λ (d : Cluster × EntryView). HasPlaces d.0 → LeavesWords k d.0) (option_map (λ r. (record k { servers = hand_over_newer e.server (length s.rest.outbox) r.0 k.servers }, r.1)) p)
  handed None g go = tt
  handed (Some r) g go = λ places.
      let older = length s.rest.outbox in
      let end : Cluster = record k { servers = hand_over_newer e.server older r.0 k.servers } in
      let rest : List Thing = servers_things (with_server k.servers e.server g.mid) in
      let n = s.rest.number in
      let x = g.cell.object in
      let hand : List Thing = sent n (message.Drop w o) ∷ lies n g.address g.cell ∷ [] in
      let before : Alike k.code (things_of k) (hand ++ rest) = chain (servers_alike e.server k.servers s s here (itself (server_things s))) (replaced e.server k.servers s s g.mid hand here g.before) in
      let after : Alike k.code (things_of end) (holds in_hand g.cell.value ∷ rest) =
      chain (turned (handed_over e.server older s r.0 k.servers here (go_with k.servers e.server r.0 (take older r.0.rest.outbox) (drop_first older r.0.rest.outbox) go))) (replaced e.server k.servers s r.0 g.mid (holds in_hand g.cell.value ∷ []) here g.after) in
      let here_k : HasPlaces k = record { numbers_differ = sound.names.numbers_differ; home_of_each = sound.one_home.home_of_each; owner_of_each = sound.one_owner.owner_of_each } in
      let none : tot (cells o) rest ≡ 0 = (let u = tot-server (cells o) k.servers e.server s g.mid here in omega (arith, u.0, u.1, g.fewer, sound.one_home.home_of_each o)) in
      let m = message_there k sound e.server s here i w o q in
      let unled = none_leads k coherent o m.0 m.1 m.2 in
      freed_leaves k end x here_k places sound.words.first_at_holder
      (is_freed k end here_k places refl rest n n g.address w g.cell (subst (λ y. tot (cells y) rest ≡ 0) (sym g.object) none)
      (subst (λ y. Alike k.code (things_of k) (sent n (message.Drop w y) ∷ lies n g.address g.cell ∷ rest)) (sym g.object) before) after (subst (λ y. NoneLeads k y) (sym g.object) unled) (rooted k sound))

  done : e.what ≡ Deliver i → Gives (Goes k.code w o s) (done_at k e.what s)
  done is = subst (λ p. Gives (Goes k.code w o s) (done_at k p s)) (sym is) (test_gives (Goes k.code w o s) (enabled k.options s (Deliver i)) (does k.code k.options s (Deliver i)) (λ on. server_goes k sound e.server s here i w o q))

  leaves : e.what ≡ Deliver i → Gives (λ (d : Cluster × EntryView). LeavesWords k d.0) (apply k e)
  leaves is =
      both_give (λ (d : Cluster × EntryView). HasPlaces d.0 → LeavesWords k d.0) (λ (d : Cluster × EntryView). HasPlaces d.0) (λ (d : Cluster × EntryView). LeavesWords k d.0) (apply k e)
      (subst (λ p. Gives (λ (d : Cluster × EntryView). HasPlaces d.0 → LeavesWords k d.0) (then_some p (λ x. option_map (λ d. (record k { servers = hand_over_newer e.server (length x.rest.outbox) d.0 k.servers }, d.1)) (done_at k e.what x)))) (sym here)
      (handed (done_at k e.what s) (done is) (each_event_sends k e sound few s here)))
      (applied_part HasPlaces (λ c g. record { numbers_differ = g.numbers_differ; home_of_each = g.home_of_each; owner_of_each = g.owner_of_each }) k e sound few)
      (λ d g c. g c)

pub drops_leave : DropsLeave
drops_leave k e w o d coherent few = leaves k e w o coherent few d.place d.server d.there d.message d.what
