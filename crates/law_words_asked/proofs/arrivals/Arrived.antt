-- An object that was under way lies at its server, and its pointer gets the word that leads there.
use Rattle.std.proofs.Common.{◌≡◌, ℕ, ◌==◌, Bool, true, false, if◌then◌else◌, List, [], ◌∷◌, length, Some, IsSome, refl, sym, ap, subst, ◌∙◌}
use Rattle.std.specs.Prelude.{slice_get}
use Rattle.law_results_events.specs.Below.heap_partition.declared.value.BoxPtr.{BoxPtr}
use Rattle.law_results_events.specs.Below.heap_partition.declared.value.Cell.{Cell}
use Rattle.law_results_events.specs.Below.owner_box.Partition.{made, new_word}
use Rattle.law_results_events.specs.Below.thread_state.View.{ThreadState}
use Rattle.law_results_events.specs.Below.server_model.Servers.{Rest, Server, Cluster, server_at}
use Rattle.law_results_events.specs.Below.server_model.Work.{Hand, receive, set_thread, thread_in}
use Rattle.law_results_events.specs.Below.server_model.Clusters.{with_server}
use Rattle.law_results_events.specs.Below.coherent_memory.Things.{at_slot, in_cell, counts, things_at, copy_things, mutex_things, task_things, standing_things, leaving_things, server_things, servers_things, things_of}
use Rattle.law_results_events.proofs.Below.law_words_paths.paths.Sole.{some_is}
use Rattle.law_results_events.specs.Below.law_words_paths.words.PutBack.{put_in, StandsHere, LeadsHome}
use Rattle.law_results_events.proofs.Below.law_words_paths.words.Put.{Split, split_whole, servers_split}
use Rattle.law_results_events.proofs.Below.law_words_paths.words.Standing.{CellOf}
use Rattle.law_results_events.proofs.Below.law_words_paths.words.Tints.{slots_reword}
use Rattle.law_results_events.proofs.Below.law_words_paths.words.Cells.{cells_reword}
use Rattle.law_results_events.specs.Below.law_words_kept.moves.Relaid.{Relaid}
use Rattle.law_results_events.proofs.Below.law_words_kept.moves.Relaid.{Shifted, relaid_by, relaid_rewords}
use Rattle.law_words_asked.specs.arrivals.Arrivals.{Arrival, ArrivalsReword}
use Rattle.law_words_asked.proofs.arrivals.Lists.{comes_beside, cell_comes, message_goes, shifts, shifted_beside}

-- what stands there put back
set_self : (ts : List ThreadState) (t : ℕ) (y : ThreadState) → thread_in ts t ≡ Some y → y.number ≡ t → set_thread ts y ≡ ts
set_self [] t y e n = refl
set_self (z ∷ ts) t y e n = by (z.number == t) refl e (λ f. set_self ts t y f n)
  where
    tested : (b : Bool) → (z.number == t) ≡ b → (z.number == y.number) ≡ b
    tested b q = ap (λ m. z.number == m) n ∙ q

    by : (b : Bool) → (z.number == t) ≡ b → (if b then Some z else thread_in ts t) ≡ Some y → (thread_in ts t ≡ Some y → set_thread ts y ≡ ts) → set_thread (z ∷ ts) y ≡ z ∷ ts
    by true q f go = rw (tested true q) (ap (λ x. x ∷ ts) (sym (some_is f)))
    by false q f go = rw (tested false q) (ap (λ l. z ∷ l) (go f))

server_self : (ss : List Server) (n : ℕ) (s : Server) → server_at ss n ≡ Some s → with_server ss n s ≡ ss
server_self [] n s e = refl
server_self (z ∷ ss) n s e = by (z.rest.number == n) refl e (λ f. server_self ss n s f)
  where
    by : (b : Bool) → (z.rest.number == n) ≡ b → (if b then Some z else server_at ss n) ≡ Some s → (server_at ss n ≡ Some s → with_server ss n s ≡ ss) → with_server (z ∷ ss) n s ≡ z ∷ ss
    by true q f go = rw q (ap (λ x. x ∷ ss) (sym (some_is f)))
    by false q f go = rw q (ap (λ l. z ∷ l) (go f))

is_there : (ss : List Server) (n : ℕ) (s : Server) → server_at ss n ≡ Some s → IsSome (server_at ss n)
is_there ss n s e = subst (λ o. IsSome o) (sym e) refl

no_counts : (n a r t m e : ℕ) (c : Cell) → CellOf c (counts n a r t m e) → ⊥
no_counts n a r t m e c is = elim is [ ]

-- the server with the cell there, and the message gone
landed : (s : Server) (i old t e : ℕ) (c : Cell) → slice_get s.rest.inbox i ≡ Some (Rattle.law_results_events.specs.Below.server_msgs.declared.message.Message.TheVariants.Moved old c t) → Rattle.law_results_events.specs.Below.law_words_kept.moves.Relaid.NextIsVacant s.rest.partition
    → Shifted c.object (server_things s) (server_things (record { rest = record (receive s.rest i) { partition = made s.rest.partition c }; threads = s.threads; events = e }))
landed s i old t e c message room =
    let n = s.rest.number in
    let r = s.rest in
    let p2 = made r.partition c in
    let q1 = cell_comes n r.partition c room (counts n (length r.partition.cells) r.partition.retired r.started r.mutexes.made s.events) (counts n (length p2.cells) p2.retired r.started r.mutexes.made e)
    (refl, λ d. no_counts n (length r.partition.cells) r.partition.retired r.started r.mutexes.made s.events d) (refl, λ d. no_counts n (length p2.cells) p2.retired r.started r.mutexes.made e d) in
    let q2 = comes_beside (comes_beside (comes_beside (comes_beside q1 (things_at (copy_things n) 0 r.cache)) (things_at (mutex_things n) 0 r.mutexes.there)) (things_at (task_things n) 0 r.tasks)) (things_at (standing_things n) 0 s.threads) in
    shifted_beside (shifts q2 (message_goes n old t c 0 i r.inbox message)) (things_at leaving_things 0 r.outbox)

module _ (k : Cluster) (s : Server) (i old t e : ℕ) (c : Cell) (h : Hand) (a : Arrival k s i old t e c h) where
  abbrev n : ℕ
  n = s.rest.number

  abbrev Z : Cluster
  Z = put_in k n s.threads e h

  abbrev s2 : Server
  s2 = record { rest = record (receive s.rest i) { partition = made s.rest.partition c }; threads = s.threads; events = e }

  as_put : Z ≡ record k { servers = with_server k.servers n s2 }
  as_put =
      ap (λ (r : Rest). record k { servers = with_server k.servers n (record { rest = r; threads = set_thread s.threads h.thread; events = e }) }) a.rest
      ∙ ap (λ ts. record k { servers = with_server k.servers n (record { rest = record (receive s.rest i) { partition = made s.rest.partition c }; threads = ts; events = e }) }) (set_self s.threads t h.thread a.at a.named)

  whole : Split (things_of k) (things_of Z) (server_things s) (server_things s2)
  whole =
      subst (λ z. Split (things_of k) (things_of z) (server_things s) (server_things s2)) (sym as_put)
      (subst (λ ss. Split (servers_things ss) (servers_things (with_server k.servers n s2)) (server_things s) (server_things s2)) (server_self k.servers n s a.here)
      (servers_split n k.servers s s2 (server_things s) (server_things s2) (is_there k.servers n s a.here) (split_whole (server_things s) (server_things s2))))

  pub relays : Relaid k Z c.object
  relays = relaid_by k Z c.object (server_things s) (server_things s2) whole refl a.before a.came (landed s i old t e c a.message a.room)

  pub stands_now : StandsHere k n s.threads h
  stands_now = record { server = is_there k.servers n s a.here; number = ap (λ (r : Rest). r.number) a.rest; thread = subst (λ m. IsSome (thread_in s.threads m)) (sym a.named) (subst (λ o. IsSome o) (sym a.at) refl) }

-- the same object
home_so : {z : Cluster} (w : ℕ) (p : BoxPtr) (c : Cell) → p.object ≡ c.object → LeadsHome z (record { word = w; object = c.object }) → LeadsHome z (record p { word = w })
home_so {z = z} w p c e g = subst (λ o. LeadsHome z (record { word = w; object = o })) (sym e) g

pub arrivals_reword : ArrivalsReword
arrivals_reword = record {
  relays = relays;
  slot = λ k s i old t e c h h2 j v p a home at points same put after first.
      let z = put_in k s.rest.number s.threads e h in
      let z2 = put_in k s.rest.number s.threads e h2 in
      relaid_rewords k z z2 (at_slot h.thread.number j) c.object (new_word s.rest.partition) (relays k s i old t e c h a)
      (subst (λ o. Rattle.law_results_events.specs.Below.law_words_paths.words.Reworded.Reworded z z2 (at_slot h.thread.number j) o (new_word s.rest.partition)) same
      (slots_reword k s.rest.number s.threads e h h2 j (new_word s.rest.partition) v p (stands_now k s i old t e c h a) at points put a.came after (home_so (new_word s.rest.partition) p c same home) first));
  in_cells = λ k s i old t e c h h2 at b p a home there boxed same put after.
      let z = put_in k s.rest.number s.threads e h in
      let z2 = put_in k s.rest.number s.threads e h2 in
      relaid_rewords k z z2 (in_cell b.object) c.object (new_word s.rest.partition) (relays k s i old t e c h a)
      (subst (λ o. Rattle.law_results_events.specs.Below.law_words_paths.words.Reworded.Reworded z z2 (in_cell b.object) o (new_word s.rest.partition)) same
      (cells_reword.put k s.rest.number s.threads e h h2 at (new_word s.rest.partition) b p (stands_now k s i old t e c h a) there boxed put a.came after (home_so (new_word s.rest.partition) p c same home)));
}
