-- The delivery of a `fetch` changes nothing that words see: a message that carries nothing goes, and another one comes.
use Rattle.std.proofs.Common.{◌≡◌, ℕ, zero, suc, ◌+◌, ◌==◌, Bool, true, false, if◌then◌else◌, List, [], ◌∷◌, ◌++◌, Option, Some, None, option_map, refl, sym, ap, subst, ◌∙◌}
use Rattle.std.specs.Prelude.{slice_get, remove}
use Rattle.law_words_paths.specs.Below.fr_base.declared.name.ObjNo.{ObjNo}
use Rattle.law_words_paths.specs.Below.heap_partition.declared.value.Cell.{Cell}
use Rattle.law_words_paths.specs.Below.journal.View.{EntryView}
use Rattle.law_words_paths.specs.Below.journal.declared.act.Act.TheVariants as act
use Rattle.law_words_paths.specs.Below.thread_state.View.{ThreadState}
use Rattle.law_words_paths.specs.Below.server_msgs.declared.message.Message.{Message}
use Rattle.law_words_paths.specs.Below.server_msgs.declared.message.Message.TheVariants.{Fetch, Fetched}
use Rattle.law_words_paths.specs.Below.server_model.Servers.{Sent, Rest, Server}
use Rattle.law_words_paths.specs.Below.server_model.Work.{Work, sent_from, send, receive, note, look_object, then_some}
use Rattle.law_words_paths.specs.Below.server_model.Events.{does, begin_work, left_by, deliver_message, received}
use Rattle.law_words_paths.specs.Below.server_model.Clusters.{with_server}
use Rattle.law_words_paths.specs.Below.coherent_memory.Things.{Thing, things_at, copy_things, message_things, waiting_things, leaving_things, server_things}
use Rattle.law_words_paths.proofs.paths.Sole.{some_is}
use Rattle.law_words_paths.specs.words.Unmoved.{Unmoved, FetchesUnmoved}
use Rattle.law_words_paths.proofs.words.Unseen.{Unseen, Alike, alike_itself, alike_unseen, alike_join, unseen_one, unseen_join, unseen_none, server_alike, servers_alike, unmoved, Acted, acted}

-- LISTS OF MESSAGES

alike_turn : (a b c : List Thing) → Alike a b → Alike b c → Alike a c
alike_turn a b c p q = record {
  threads = q.threads ∙ p.threads;
  cells = q.cells ∙ p.cells;
  loose = λ y h e. p.loose y (q.loose y h e) e;
  remain = λ y h e. q.remain y (p.remain y h e) e;
  lies = λ r d x h. p.lies r d x (q.lies r d x h);
}

module _ {A : Type 0} (g : A → List Thing) where
  abbrev all : ℕ → List A → List Thing
  all i xs = things_at (λ n x. g x) i xs

  shifted : (i j : ℕ) (xs : List A) → Alike (all i xs) (all j xs)
  shifted i j [] = alike_itself []
  shifted i j (x ∷ xs) = alike_join (g x) (g x) (all (i + 1) xs) (all (j + 1) xs) (alike_itself (g x)) (shifted (i + 1) (j + 1) xs)

  -- one that isn't seen goes
  goes : (i k : ℕ) (xs : List A) (x : A) → slice_get xs k ≡ Some x → Unseen (g x) → Alike (all i xs) (all i (remove xs k))
  goes i k [] x e u = absurd cc
  goes i zero (y ∷ xs) x e u =
      alike_join (g y) [] (all (i + 1) xs) (all i xs) (alike_unseen (g y) [] (subst (λ z. Unseen (g z)) (sym (some_is e)) u) unseen_none) (shifted (i + 1) i xs)
  goes i (suc k) (y ∷ xs) x e u = alike_join (g y) (g y) (all (i + 1) xs) (all (i + 1) (remove xs k)) (alike_itself (g y)) (goes (i + 1) k xs x e u)

  -- and one comes
  comes : (i : ℕ) (xs : List A) (x : A) → Unseen (g x) → Alike (all i xs) (all i (xs ++ x ∷ []))
  comes i [] x u = alike_unseen [] (g x ++ []) unseen_none (unseen_join (g x) [] u unseen_none)
  comes i (y ∷ xs) x u = alike_join (g y) (g y) (all (i + 1) xs) (all (i + 1) (xs ++ x ∷ [])) (alike_itself (g y)) (comes (i + 1) xs x u)

fetch_unseen : (r w : ℕ) (o : ObjNo) (s t : ℕ) → Unseen (message_things r (Fetch w o s t))
fetch_unseen r w o s t = unseen_one _ refl refl refl (λ a b c e. absurd cc)

fetched_unseen : (r w : ℕ) (c : Cell) (t : ℕ) → Unseen (message_things r (Fetched w c t))
fetched_unseen r w c t = unseen_one _ refl refl refl (λ a b d e. absurd cc)

-- a server that takes a message out and sends one, neither seen
exchanged : (r : Rest) (ts : List ThreadState) (e f i target : ℕ) (m n : Message) → slice_get r.inbox i ≡ Some m → Unseen (message_things r.number m) → ((s : ℕ) → Unseen (message_things s n))
    → Alike (server_things (record { rest = r; threads = ts; events = e })) (server_things (record { rest = sent_from (receive r i) target n; threads = ts; events = f }))
exchanged r ts e f i target m n at u v = by (target == r.number)
  where
    taken : Alike (things_at (waiting_things r.number) 0 r.inbox) (things_at (waiting_things r.number) 0 (remove r.inbox i))
    taken = goes (message_things r.number) 0 i r.inbox m at u

    copies : Alike (things_at (copy_things r.number) 0 r.cache) (things_at (copy_things r.number) 0 r.cache)
    copies = alike_itself (things_at (copy_things r.number) 0 r.cache)

    by : (b : Bool)
        → Alike (server_things (record { rest = r; threads = ts; events = e })) (server_things (record { rest = if b then record r { inbox = remove r.inbox i ++ n ∷ [] } else record r { inbox = remove r.inbox i; outbox = r.outbox ++ record { target = target; message = n } ∷ [] }; threads = ts; events = f }))
    by true =
        server_alike r ts r.cache (remove r.inbox i ++ n ∷ []) r.outbox e f copies
        (alike_turn _ _ _ taken (comes (message_things r.number) 0 (remove r.inbox i) n (v r.number))) (alike_itself (things_at leaving_things 0 r.outbox))
    by false =
        server_alike r ts r.cache (remove r.inbox i) (r.outbox ++ record { target = target; message = n } ∷ []) e f copies taken
        (comes (λ (x : Sent). message_things x.target x.message) 0 r.outbox (record { target = target; message = n }) (v target))

pub fetches_unmoved : FetchesUnmoved
fetches_unmoved k z e w o s t v d f = by (look_object (receive x.rest d.place).partition w o) start
  where
    a : Acted k z e
    a = acted k z e v f

    x : Server
    x = a.server

    same : d.server ≡ x
    same = some_is (sym d.there ∙ a.there)

    at : slice_get x.rest.inbox d.place ≡ Some (Fetch w o s t)
    at = subst (λ (y : Server). slice_get y.rest.inbox d.place ≡ Some (Fetch w o s t)) same d.message

    start : option_map (left_by x.events None None) (option_map (λ (y : Work). record (received d.place x) { work = y }) (option_map (λ (c : Cell). send s (Fetched w c t) (note (act.Serve o w s) (begin_work (receive x.rest d.place)))) (look_object (receive x.rest d.place).partition w o))) ≡ Some (a.new, a.entry)
    start = sym (ap (λ m. option_map (left_by x.events None None) (then_some m (λ n. deliver_message k.code n (received d.place x)))) at) ∙ ap (does k.code k.options x) (sym d.what) ∙ a.done

    by : (c : Option Cell) → option_map (left_by x.events None None) (option_map (λ (y : Work). record (received d.place x) { work = y }) (option_map (λ (c : Cell). send s (Fetched w c t) (note (act.Serve o w s) (begin_work (receive x.rest d.place)))) c)) ≡ Some (a.new, a.entry) → Unmoved k z
    by None g = absurd cc
    by (Some c) g =
        let new : record { rest = sent_from (receive x.rest d.place) s (Fetched w c t); threads = x.threads; events = x.events + 1 } ≡ a.new = ap (λ (y : Server × EntryView). y.0) (some_is g) in
        subst (λ y. Unmoved k y) (sym a.is)
        (subst (λ y. Unmoved k (record k { servers = with_server k.servers e.server y })) new
        (unmoved k (record k { servers = with_server k.servers e.server (record { rest = sent_from (receive x.rest d.place) s (Fetched w c t); threads = x.threads; events = x.events + 1 }) }) refl
        (servers_alike e.server k.servers x (record { rest = sent_from (receive x.rest d.place) s (Fetched w c t); threads = x.threads; events = x.events + 1 }) a.there
        (exchanged x.rest x.threads x.events (x.events + 1) d.place s (Fetch w o s t) (Fetched w c t) at (fetch_unseen x.rest.number w o s t) (λ r. fetched_unseen r w c t)))))
