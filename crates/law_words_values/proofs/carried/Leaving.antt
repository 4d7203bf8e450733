-- A `move` at its server: the object leaves its address, and is under way beside all else.
use Rattle.std.proofs.Common.{◌≡◌, inl, ⊎_elim, ℕ, zero, suc, ◌+◌, ◌&&◌, Bool, true, false, if◌then◌else◌, List, [], ◌∷◌, ◌++◌, Option, Some, None, option_map, refl, sym, ap, subst, ◌∙◌, arith}
use Rattle.std.specs.Prelude.{slice_get, slice_set, length, take, drop as drop_first}
use Rattle.law_words_kept.specs.Below.fr_base.declared.instruction.Instr.{Instr}
use Rattle.law_words_kept.specs.Below.fr_base.declared.name.ObjNo.{ObjNo}
use Rattle.law_words_kept.specs.Below.global_addr.Words.{address_of}
use Rattle.law_words_kept.specs.Below.heap_partition.declared.value.Cell.{Cell}
use Rattle.law_words_kept.specs.Below.owner_box.Partition.{freed}
use Rattle.law_words_kept.specs.Below.journal.View.{EntryView}
use Rattle.law_words_kept.specs.Below.journal.declared.act.Act.TheVariants as act
use Rattle.law_words_kept.specs.Below.server_msgs.declared.message.Message.TheVariants as message
use Rattle.law_words_kept.specs.Below.server_model.declared.event.Event.{Event}
use Rattle.law_words_kept.specs.Below.server_model.declared.event.What.TheVariants.{Deliver}
use Rattle.law_words_kept.specs.Below.server_model.Servers.{Rest, Server, Cluster, server_at}
use Rattle.law_words_kept.specs.Below.server_model.Work.{Work, Site, look, look_object, receive, then_some, sent_from, send, note, with_partition}
use Rattle.law_words_kept.specs.Below.server_model.Events.{enabled, does, left_by, received, deliver, deliver_message}
use Rattle.law_words_kept.specs.Below.server_model.Clusters.{with_server, hand_over_newer, done_at, apply}
use Rattle.law_words_kept.specs.Below.coherent_memory.Names.{Among, other}
use Rattle.law_words_kept.specs.Below.coherent_memory.Things.{Thing, lies, flies, sent, vacant, retired, things_at, is_free, cell_things, free_things, copy_things, mutex_things, task_things, waiting_things, leaving_things, message_things, server_things, servers_things, things_of}
use Rattle.law_words_kept.specs.Below.coherent_memory.Sight.{Pointer, is_word, word, sight}
use Rattle.law_words_kept.specs.Below.coherent_memory.Words.{IsStale, Fresh}
use Rattle.law_words_kept.specs.Below.coherent_memory.Requests.{not_there}
use Rattle.law_words_kept.specs.Below.coherent_memory.Coherent.{IsSound}
use Rattle.law_words_kept.proofs.Below.coherent_memory.Names.{same_number}
use Rattle.law_words_kept.proofs.Below.coherent_memory.Words.{words_law}
use Rattle.law_words_kept.specs.Below.law_words_paths.words.Reworded.{HasPlaces}
use Rattle.law_words_kept.specs.Below.law_words_paths.words.Unmoved.{LeavesWords}
use Rattle.law_words_kept.specs.Below.law_words_paths.words.OneMore.{Beside}
use Rattle.law_words_kept.proofs.Below.law_words_paths.words.OneMore.{one_more_stays}
use Rattle.law_words_kept.specs.Below.law_counts_sums.Laws.{Gives, GoTo, FewEvents}
use Rattle.law_words_kept.proofs.Below.law_counts_sums.Results.{over_gives, test_gives, both_give}
use Rattle.law_words_kept.proofs.Below.law_counts_sums.Bags.{all_standing, body_things, sent_number}
use Rattle.law_words_kept.proofs.Below.law_counts_sums.Cells.{looked}
use Rattle.law_words_kept.proofs.Below.law_counts_sums.ObjectMessages.{looked_object}
use Rattle.law_words_kept.proofs.Below.law_counts_sums.MutexResults.{has}
use Rattle.law_words_kept.proofs.Below.law_counts_sums.Applied.{go_with}
use Rattle.law_words_kept.proofs.Below.law_counts_sums.Sending.{applied_part, each_event_sends}
use Rattle.law_words_kept.proofs.stays.Alike.{Alike, itself, turned, chain, beside, in_front, blank, blanks, goes}
use Rattle.law_words_kept.proofs.stays.Servers.{server_body, receives, sends}
use Rattle.law_words_kept.proofs.stays.Sites.{ends_alike, servers_alike, replaced, handed_over}
use Rattle.law_words_values.specs.carried.Leaving.{MovesLeave}
use Rattle.law_words_values.proofs.carried.Far.{leaves_old}

-- THE PARTITION

pub none_blank : {code : List Instr} (s : ℕ) (free : List (ℕ × ℕ)) (a : ℕ) → Alike code (cell_things s free a None) []
none_blank {code = code} s free a = by (is_free a free)
  where
    by : (b : Bool) → Alike code (if b then [] else retired s a ∷ []) []
    by true = itself []
    by false = blank (retired s a) (λ p e h. h)

-- what is free of other addresses isn't seen
pub one_cell : {code : List Instr} (s : ℕ) (f g : List (ℕ × ℕ)) (a : ℕ) (c : Option Cell) → Alike code (cell_things s f a c) (cell_things s g a c)
one_cell s f g a None = chain (none_blank s f a) (turned (none_blank s g a))
one_cell s f g a (Some c) = itself (lies s a c ∷ [])

pub all_cells : {code : List Instr} (s : ℕ) (f g : List (ℕ × ℕ)) (i : ℕ) (xs : List (Option Cell)) → Alike code (things_at (cell_things s f) i xs) (things_at (cell_things s g) i xs)
all_cells s f g i [] = itself []
all_cells s f g i (x ∷ xs) = beside (one_cell s f g i x) (all_cells s f g (i + 1) xs)

cell_leaves : {code : List Instr} (s : ℕ) (f g : List (ℕ × ℕ)) (i j : ℕ) (xs : List (Option Cell)) (c : Cell) → slice_get xs j ≡ Some (Some c)
    → (a : ℕ) × Alike code (things_at (cell_things s f) i xs) (lies s a c ∷ things_at (cell_things s g) i (slice_set xs j None))
cell_leaves s f g i j [] c e = absurd cc
cell_leaves {code = code} s f g i zero (x ∷ xs) c e =
    let is : x ≡ Some c = cc in (
      i,
      subst (λ y. Alike code (cell_things s f i y ++ things_at (cell_things s f) (i + 1) xs) (lies s i c ∷ (cell_things s g i None ++ things_at (cell_things s g) (i + 1) xs))) (sym is)
          (beside {a = lies s i c ∷ []} {b = lies s i c ∷ []} (itself (lies s i c ∷ [])) (chain (all_cells s f g (i + 1) xs) (turned (goes (none_blank s g i))))),
    )
cell_leaves s f g i (suc j) (x ∷ xs) c e =
    let q = cell_leaves s f g (i + 1) j xs c e in
    (q.0, chain (beside (one_cell s f g i x) q.1) (in_front (cell_things s g i x) (lies s q.0 c ∷ []) (things_at (cell_things s g) (i + 1) (slice_set xs j None))))

pub free_blank : {code : List Instr} (s i : ℕ) (xs : List (ℕ × ℕ)) → Alike code (things_at (free_things s) i xs) []
free_blank s i [] = itself []
free_blank s i (x ∷ xs) = blanks (blank (vacant s x.0 x.1) (λ p e h. h)) (free_blank s (i + 1) xs)

body_leaves : {code : List Instr} (n w : ℕ) (r : Rest) (c : Cell) → look r.partition w ≡ Some c → (a : ℕ) × Alike code (body_things n r) (lies n a c ∷ body_things n (record r { partition = freed r.partition w }))
body_leaves n w r c e =
    let p = r.partition in
    let q = cell_leaves n p.free (freed p w).free 0 (address_of w) p.cells c (looked p w c e) in
    let part = beside q.1 (chain (free_blank n 0 p.free) (turned (free_blank n 0 (freed p w).free))) in
    (q.0, beside (beside (beside (beside (beside part (itself (things_at (copy_things n) 0 r.cache))) (itself (things_at (mutex_things n) 0 r.mutexes.there))) (itself (things_at (task_things n) 0 r.tasks))) (itself (things_at (waiting_things n) 0 r.inbox))) (itself (things_at leaving_things 0 r.outbox)))

-- THE SERVER

-- the object was at its server, and is under way from there
record Leaves (code : List Instr) (w : ℕ) (o : ObjNo) (s : Server) (d : Server × EntryView) : Type 0 where
  cell : Cell
  address : ℕ
  mid : Server
  object : cell.object ≡ o
  before : Alike code (server_things s) (lies s.rest.number address cell ∷ server_things mid)
  after : Alike code (server_things d.0) (flies w cell ∷ server_things mid)

module _ (code : List Instr) (s : Server) (i w : ℕ) (o : ObjNo) (a t : ℕ) (q : slice_get s.rest.inbox i ≡ Some (message.Move w o a t)) where
  abbrev n : ℕ
  n = s.rest.number

  abbrev r1 : Rest
  r1 = receive s.rest i

  leaves_with : (c : Cell) → look r1.partition w ≡ Some c → c.object ≡ o → (x : Work) → x.rest ≡ sent_from (record r1 { partition = freed r1.partition w }) a (message.Moved w c t)
      → Leaves code w o s (left_by s.events None None (record { work = x; threads = s.threads }))
  leaves_with c e f x made =
      let r2 : Rest = record r1 { partition = freed r1.partition w } in
      let all = all_standing n s.threads in
      let mid : Server = record { rest = r2; threads = s.threads; events = s.events + 1 } in
      let m = message.Moved w c t in
      let q1 = body_leaves {code = code} n w r1 c e in
      let site : Site = record { work = x; threads = s.threads } in
      let come : Alike code (body_things n s.rest) (body_things n r1) = chain (receives n s.rest i (message.Move w o a t) q) (goes (blank (sent n (message.Move w o a t)) (λ p g h. h))) in
      let gone : Alike code (message_things a m) (flies w c ∷ []) = goes {a = sent a m ∷ []} {b = flies w c ∷ []} (blank (sent a m) (λ p g h. h)) in
      let sent_so : Alike code (body_things n x.rest) (flies w c ∷ body_things n r2) = subst (λ y. Alike code (body_things n y) (flies w c ∷ body_things n r2)) (sym made) (chain (turned (sends n r2 refl a m)) (beside gone (itself (body_things n r2)))) in
      let number : x.rest.number ≡ n = ap (λ (y : Rest). y.number) made ∙ sent_number r2 a m in record {
        cell = c;
        address = q1.0;
        mid = mid;
        object = f;
        before = chain (server_body s) (chain (beside (itself all) (chain come q1.1)) (chain (in_front all (lies n q1.0 c ∷ []) (body_things n r2)) (beside (itself (lies n q1.0 c ∷ [])) (turned (server_body mid)))));
        after =
            chain (turned (ends_alike n s.events None None site number)) (chain (beside (itself all) sent_so) (chain (in_front all (flies w c ∷ []) (body_things n r2)) (beside (itself (flies w c ∷ [])) (turned (server_body mid)))));
      }

  server_leaves : (k2 : Cluster) → Gives (Leaves code w o s) (does code k2.options s (Deliver i))
  server_leaves k2 =
      over_gives (λ (x : Site). Leaves code w o s (left_by s.events None None x)) (Leaves code w o s) (deliver code i s) (left_by s.events None None)
      (subst (λ p. Gives (λ (x : Site). Leaves code w o s (left_by s.events None None x)) (then_some p (λ m. deliver_message code m (received i s)))) (sym q) (by (look_object r1.partition w o) refl)) (λ x g. g)
    where
      by : (p : Option Cell) → look_object r1.partition w o ≡ p → Gives (λ (x : Site). Leaves code w o s (left_by s.events None None x))
          (option_map (λ v. record (received i s) { work = v }) (option_map (λ c. send a (message.Moved w c t) (note (act.Give o w a) (with_partition (freed r1.partition w) (received i s).work))) p))
      by None e = tt
      by (Some c) e = let l = looked_object r1.partition w o c e in leaves_with c l.0 l.1 _ refl

-- IN ITS CLUSTER

is_so : (a b : Bool) → other (a && b) ≡ 0 → a ≡ true
is_so true b e = refl
is_so false b e = absurd cc

its_word : (o : Option ℕ) (v w : ℕ) → o ≡ Some v → is_word o w ≡ true → v ≡ w
its_word o v w e f = same_number v w (subst (λ p. is_word p w ≡ true) e f)

module _ (k : Cluster) (e : Event) (w : ℕ) (o : ObjNo) (a t : ℕ) (sound : IsSound k) (few : FewEvents k) (i : ℕ) (s : Server) (here : server_at k.servers e.server ≡ Some s) (q : slice_get s.rest.inbox i ≡ Some (message.Move w o a t)) where
  -- the message tells the object's word
  told_word : is_word (word (sight k) o) w ≡ true
  told_word =
      let m = message.Move w o a t in
      let all = sound.requests.objects_there in
      let mine : not_there (sight k) (sent s.rest.number m) ≡ 0 = (let h = has k sound e.server s here i m q (not_there (sight k)) in omega (arith, all, h)) in
      is_so (is_word (word (sight k) o) w) _ mine

  -- a fresh pointer has the word that the message has
  beside_old : (m : ℕ) (c : Cell) → Among (lies s.rest.number m c) (things_of k) → c.object ≡ o → Beside k (record { at = None; word = w; object = o })
  beside_old m c h same =
      let words = sound.words.have_words in
      let f : Fresh (sight k) o = subst (λ p. Fresh (sight k) p) same (words.live s.rest.number m c h) in
      let tells = words_law.first_tells k words o f in
      let is : words.word o ≡ w = its_word (word (sight k) o) (words.word o) w tells told_word in record {
        pointer = f.pointer;
        among = f.among;
        fresh = f.fresh;
        object = f.object;
        word = ⊎_elim (λ (x : IsStale (sight k) f.pointer.at). absurd (f.fresh x)) (λ (x : f.pointer.word ≡ words.word f.pointer.object). x ∙ ap words.word f.object ∙ is) (words.same f.pointer f.among);
      }

  handed : (p : Option (Server × EntryView)) → Gives (Leaves k.code w o s) p → Gives (λ (r : Server × EntryView). GoTo (with_server k.servers e.server r.0) (drop_first (length s.rest.outbox) r.0.rest.outbox)) p
      → Gives (λ (d : Cluster × EntryView). HasPlaces d.0 → LeavesWords k d.0) (option_map (λ r. (record k { servers = hand_over_newer e.server (length s.rest.outbox) r.0 k.servers }, r.1)) p)
  handed None g go = tt
  handed (Some r) g go = λ places.
      let older = length s.rest.outbox in
      let end : Cluster = record k { servers = hand_over_newer e.server older r.0 k.servers } in
      let rest : List Thing = servers_things (with_server k.servers e.server g.mid) in
      let before : Alike k.code (things_of k) (lies s.rest.number g.address g.cell ∷ rest) =
      chain (servers_alike e.server k.servers s s here (itself (server_things s))) (replaced e.server k.servers s s g.mid (lies s.rest.number g.address g.cell ∷ []) here g.before) in
      let after : Alike k.code (things_of end) (flies w g.cell ∷ rest) =
      chain (turned (handed_over e.server older s r.0 k.servers here (go_with k.servers e.server r.0 (take older r.0.rest.outbox) (drop_first older r.0.rest.outbox) go))) (replaced e.server k.servers s r.0 g.mid (flies w g.cell ∷ []) here g.after) in
      let there = before.back (lies s.rest.number g.address g.cell) (inl refl) in
      let here_k : HasPlaces k = record { numbers_differ = sound.names.numbers_differ; home_of_each = sound.one_home.home_of_each; owner_of_each = sound.one_owner.owner_of_each } in
      let old : Pointer = record { at = None; word = w; object = g.cell.object } in
      let beside : Beside k old = subst (λ p. Beside k (record { at = None; word = w; object = p })) (sym g.object) (beside_old g.address g.cell there g.object) in
      one_more_stays k end old here_k places (leaves_old k end here_k places refl rest s.rest.number g.address w g.cell before after beside)

  done : e.what ≡ Deliver i → Gives (Leaves k.code w o s) (done_at k e.what s)
  done is = subst (λ p. Gives (Leaves k.code w o s) (done_at k p s)) (sym is) (test_gives (Leaves k.code w o s) (enabled k.options s (Deliver i)) (does k.code k.options s (Deliver i)) (λ on. server_leaves k.code s i w o a t q k))

  leaves : e.what ≡ Deliver i → Gives (λ (d : Cluster × EntryView). LeavesWords k d.0) (apply k e)
  leaves is =
      both_give (λ (d : Cluster × EntryView). HasPlaces d.0 → LeavesWords k d.0) (λ (d : Cluster × EntryView). HasPlaces d.0) (λ (d : Cluster × EntryView). LeavesWords k d.0) (apply k e)
      (subst (λ p. Gives (λ (d : Cluster × EntryView). HasPlaces d.0 → LeavesWords k d.0) (then_some p (λ x. option_map (λ d. (record k { servers = hand_over_newer e.server (length x.rest.outbox) d.0 k.servers }, d.1)) (done_at k e.what x)))) (sym here)
      (handed (done_at k e.what s) (done is) (each_event_sends k e sound few s here)))
      (applied_part HasPlaces (λ c g. record { numbers_differ = g.numbers_differ; home_of_each = g.home_of_each; owner_of_each = g.owner_of_each }) k e sound few)
      (λ d g c. g c)

pub moves_leave : MovesLeave
moves_leave k e w o a t d sound few = leaves k e w o a t sound few d.place d.server d.there d.message d.what
