-- Lists of things that are the same but for what words don't see: copies, uses, counts, notes and messages that carry nothing.
use Rattle.std.proofs.Common.{◌≡◌, inl, inr, ⊎_elim, ℕ, ◌+◌, ◌==◌, Bool, true, false, if◌then◌else◌, List, [], ◌∷◌, ◌++◌, length, Option, Some, None, option_map, refl, sym, ap, subst, ◌∙◌}
use Rattle.law_words_paths.specs.Below.fr_base.declared.name.ObjNo.{ObjNo}
use Rattle.law_words_paths.specs.Below.heap_partition.declared.value.Cell.{Cell}
use Rattle.law_words_paths.specs.Below.read_cache.Cache.{Copy, can_evict, evict}
use Rattle.law_words_paths.specs.Below.journal.View.{EntryView}
use Rattle.law_words_paths.specs.Below.journal.declared.act.Act.TheVariants as act
use Rattle.law_words_paths.specs.Below.server_model.declared.event.Event.{Event}
use Rattle.law_words_paths.specs.Below.thread_state.View.{ThreadState}
use Rattle.law_words_paths.specs.Below.server_msgs.declared.message.Message.{Message}
use Rattle.law_words_paths.specs.Below.server_model.Servers.{Sent, Rest, Server, Cluster, server_at}
use Rattle.law_words_paths.specs.Below.server_model.Work.{Work, note, with_cache, then_some}
use Rattle.law_words_paths.specs.Below.server_model.Events.{enabled, does, begin_at, left_by}
use Rattle.law_words_paths.specs.Below.server_model.Clusters.{with_server, done_at, act_at}
use Rattle.law_words_paths.specs.Below.coherent_memory.Names.{Among}
use Rattle.law_words_paths.specs.Below.coherent_memory.Things.{Thing, lies, counts, things_at, partition_things, copy_things, mutex_things, task_things, standing_things, waiting_things, leaving_things, server_things, servers_things, things_of}
use Rattle.law_words_paths.specs.Below.coherent_memory.Follow.{threads_in, cells_in, value_in}
use Rattle.law_words_paths.proofs.Below.coherent_memory.Bags.{among_split}
use Rattle.law_words_paths.proofs.paths.Sole.{some_is}
use Rattle.law_words_paths.proofs.paths.Origins.{threads_joined, among_first, among_second}
use Rattle.law_words_paths.specs.words.Reworded.{is_loose}
use Rattle.law_words_paths.specs.words.Unmoved.{pointing, takings, Unmoved, EvictionsUnmoved}
use Rattle.law_words_paths.proofs.words.Loose.{unplaced, unplaced_standing}
use Rattle.law_words_paths.proofs.words.Slots.{cells_joined}

-- words see nothing of these
pub record Unseen (b : List Thing) : Type 0 where
  pub threads : threads_in b ≡ []
  pub cells : cells_in b ≡ []
  pub loose : (y : Thing) → Among y b → is_loose y ≡ true → ⊥
  pub lies : (r a : ℕ) (c : Cell) → Among (lies r a c) b → ⊥

-- words see the same of these
pub record Alike (a b : List Thing) : Type 0 where
  pub threads : threads_in b ≡ threads_in a
  pub cells : cells_in b ≡ cells_in a
  pub loose : (y : Thing) → Among y b → is_loose y ≡ true → Among y a
  pub remain : (y : Thing) → Among y a → is_loose y ≡ true → Among y b
  pub lies : (r d : ℕ) (c : Cell) → Among (lies r d c) b → Among (lies r d c) a

pub alike_itself : (a : List Thing) → Alike a a
alike_itself a = record { threads = refl; cells = refl; loose = λ y h e. h; remain = λ y h e. h; lies = λ r d c h. h }

pub alike_unseen : (a b : List Thing) → Unseen a → Unseen b → Alike a b
alike_unseen a b p q = record {
  threads = q.threads ∙ sym p.threads;
  cells = q.cells ∙ sym p.cells;
  loose = λ y h e. absurd (q.loose y h e);
  remain = λ y h e. absurd (p.loose y h e);
  lies = λ r d c h. absurd (q.lies r d c h);
}

either : {X : Type 0} (y : X) (a b c d : List X) → (Among y a → Among y c) → (Among y b → Among y d) → Among y (a ++ b) → Among y (c ++ d)
either y a b c d f g h = ⊎_elim (λ (l : Among y a). among_first y c d (f l)) (λ (r : Among y b). among_second y c d (g r)) (among_split y a b h)

pub alike_join : (a b c d : List Thing) → Alike a b → Alike c d → Alike (a ++ c) (b ++ d)
alike_join a b c d p q = record {
  threads = threads_joined b d ∙ ap (λ l. l ++ threads_in d) p.threads ∙ ap (λ l. threads_in a ++ l) q.threads ∙ sym (threads_joined a c);
  cells = cells_joined b d ∙ ap (λ l. l ++ cells_in d) p.cells ∙ ap (λ l. cells_in a ++ l) q.cells ∙ sym (cells_joined a c);
  loose = λ y h e. either y b d a c (λ l. p.loose y l e) (λ l. q.loose y l e) h;
  remain = λ y h e. either y a c b d (λ l. p.remain y l e) (λ l. q.remain y l e) h;
  lies = λ r g x h. either (lies r g x) b d a c (λ l. p.lies r g x l) (λ l. q.lies r g x l) h;
}

-- COPIES AND COUNTS

pub unseen_one : (x : Thing) → threads_in (x ∷ []) ≡ [] → cells_in (x ∷ []) ≡ [] → is_loose x ≡ false → ((r a : ℕ) (c : Cell) → x ≡ lies r a c → ⊥) → Unseen (x ∷ [])
unseen_one x t c l n = record { threads = t; cells = c; loose = loose; lies = lies_none }
  where
    loose : (y : Thing) → Among y (x ∷ []) → is_loose y ≡ true → ⊥
    loose y (inl e) f = let z : true ≡ false = sym f ∙ sym (ap is_loose e) ∙ l in absurd cc
    loose y (inr h) f = h

    lies_none : (r a : ℕ) (d : Cell) → Among (lies r a d) (x ∷ []) → ⊥
    lies_none r a d (inl e) = n r a d e
    lies_none r a d (inr h) = h

pub unseen_join : (a b : List Thing) → Unseen a → Unseen b → Unseen (a ++ b)
unseen_join a b p q = record {
  threads = threads_joined a b ∙ ap (λ l. l ++ threads_in b) p.threads ∙ q.threads;
  cells = cells_joined a b ∙ ap (λ l. l ++ cells_in b) p.cells ∙ q.cells;
  loose = λ y h e. ⊎_elim (λ (l : Among y a). p.loose y l e) (λ (r : Among y b). q.loose y r e) (among_split y a b h);
  lies = λ r g x h. ⊎_elim (λ (l : Among (lies r g x) a). p.lies r g x l) (λ (m : Among (lies r g x) b). q.lies r g x m) (among_split (lies r g x) a b h);
}

pub unseen_none : Unseen []
unseen_none = record { threads = refl; cells = refl; loose = λ y h e. h; lies = λ r a c h. h }

pub unseen_all : {A : Type 0} (g : ℕ → A → List Thing) → ((i : ℕ) (x : A) → Unseen (g i x)) → (i : ℕ) (xs : List A) → Unseen (things_at g i xs)
unseen_all g p i [] = unseen_none
unseen_all g p i (x ∷ xs) = unseen_join (g i x) (things_at g (i + 1) xs) (p i x) (unseen_all g p (i + 1) xs)

copies_unseen : (s : ℕ) (cs : List Copy) → Unseen (things_at (copy_things s) 0 cs)
copies_unseen s cs = unseen_all (copy_things s) (λ i x. unseen_one _ refl refl refl (λ r a c e. absurd cc)) 0 cs

counts_unseen : (s next retired begun made events : ℕ) → Unseen (counts s next retired begun made events ∷ [])
counts_unseen s next retired begun made events = unseen_one _ refl refl refl (λ r a c e. absurd cc)

-- SERVERS

-- the same server with other copies and messages, of which words see the same, after some events
pub server_alike : (r : Rest) (ts : List ThreadState) (cs : List Copy) (ms : List Message) (os : List Sent) (e f : ℕ) → Alike (things_at (copy_things r.number) 0 r.cache) (things_at (copy_things r.number) 0 cs)
    → Alike (things_at (waiting_things r.number) 0 r.inbox) (things_at (waiting_things r.number) 0 ms)
    → Alike (things_at leaving_things 0 r.outbox) (things_at leaving_things 0 os)
    → Alike (server_things (record { rest = r; threads = ts; events = e })) (server_things (record { rest = record r { cache = cs; inbox = ms; outbox = os }; threads = ts; events = f }))
server_alike r ts cs ms os e f copies waiting leaving =
    let n = r.number in
    let m = things_at (mutex_things n) 0 r.mutexes.there in
    let t = things_at (task_things n) 0 r.tasks in
    let x = things_at (standing_things n) 0 ts in
    let i = things_at (waiting_things n) 0 r.inbox in
    let j = things_at (waiting_things n) 0 ms in
    let c = things_at (copy_things n) 0 r.cache in
    let d = things_at (copy_things n) 0 cs in
    let a = counts n (length r.partition.cells) r.partition.retired r.started r.mutexes.made e ∷ partition_things n r.partition in
    let b = counts n (length r.partition.cells) r.partition.retired r.started r.mutexes.made f ∷ partition_things n r.partition in
    let first : Alike a b =
    alike_join (counts n (length r.partition.cells) r.partition.retired r.started r.mutexes.made e ∷ []) (counts n (length r.partition.cells) r.partition.retired r.started r.mutexes.made f ∷ []) (partition_things n r.partition) (partition_things n r.partition)
    (alike_unseen _ _ (counts_unseen n (length r.partition.cells) r.partition.retired r.started r.mutexes.made e) (counts_unseen n (length r.partition.cells) r.partition.retired r.started r.mutexes.made f)) (alike_itself (partition_things n r.partition)) in
    alike_join (a ++ c ++ m ++ t ++ x ++ i) (b ++ d ++ m ++ t ++ x ++ j) (things_at leaving_things 0 r.outbox) (things_at leaving_things 0 os)
    (alike_join (a ++ c ++ m ++ t ++ x) (b ++ d ++ m ++ t ++ x) i j
    (alike_join (a ++ c ++ m ++ t) (b ++ d ++ m ++ t) x x
    (alike_join (a ++ c ++ m) (b ++ d ++ m) t t (alike_join (a ++ c) (b ++ d) m m (alike_join a b c d first copies) (alike_itself m)) (alike_itself t)) (alike_itself x)) waiting) leaving

-- the same server with other copies
cache_alike : (r : Rest) (ts : List ThreadState) (cs : List Copy) (e f : ℕ) → Alike (server_things (record { rest = r; threads = ts; events = e })) (server_things (record { rest = record r { cache = cs }; threads = ts; events = f }))
cache_alike r ts cs e f =
    server_alike r ts cs r.inbox r.outbox e f (alike_unseen (things_at (copy_things r.number) 0 r.cache) (things_at (copy_things r.number) 0 cs) (copies_unseen r.number r.cache) (copies_unseen r.number cs))
    (alike_itself (things_at (waiting_things r.number) 0 r.inbox)) (alike_itself (things_at leaving_things 0 r.outbox))

pub servers_alike : (n : ℕ) (ss : List Server) (s y : Server) → server_at ss n ≡ Some s → Alike (server_things s) (server_things y) → Alike (servers_things ss) (servers_things (with_server ss n y))
servers_alike n [] s y e h = absurd cc
servers_alike n (z ∷ ss) s y e h = by (z.rest.number == n) refl e (λ g. servers_alike n ss s y g h)
  where
    by : (b : Bool) → (z.rest.number == n) ≡ b → (if b then Some z else server_at ss n) ≡ Some s → (server_at ss n ≡ Some s → Alike (servers_things ss) (servers_things (with_server ss n y))) → Alike (servers_things (z ∷ ss)) (servers_things (with_server (z ∷ ss) n y))
    by true q f go = rw q (alike_join (server_things z) (server_things y) (servers_things ss) (servers_things ss) (subst (λ x. Alike (server_things x) (server_things y)) (sym (some_is f)) h) (alike_itself (servers_things ss)))
    by false q f go = rw q (alike_join (server_things z) (server_things z) (servers_things ss) (servers_things (with_server ss n y)) (alike_itself (server_things z)) (go f))

-- clusters of which words see the same
pub unmoved : (k z : Cluster) → z.code ≡ k.code → Alike (things_of k) (things_of z) → Unmoved k z
unmoved k z code h = record {
  stands = λ l. ap pointing (ap (λ ts. value_in (record { threads = ts; cells = cells_in (things_of z) }) l) h.threads ∙ ap (λ cs. value_in (record { threads = threads_in (things_of k); cells = cs }) l) h.cells);
  takes = λ t m. subst (λ ts. Among t ts) same m;
  took = λ t m. subst (λ ts. Among t ts) (sym same) m;
  loose = λ p e m. unplaced k z none h.loose p m e;
  remain = λ p e m. unplaced z k none h.remain p m e;
  standing = λ p e m. unplaced_standing k z none h.loose p m e;
  lay = λ r a c m. record { cell = c; among = h.lies r a c m; object = refl };
}
  where
    same : takings z.code (threads_in (things_of z)) ≡ takings k.code (threads_in (things_of k))
    same = ap (λ c. takings c (threads_in (things_of z))) code ∙ ap (takings k.code) h.threads

    none : ObjNo
    none = record { thread = 0; count = 0 }

-- EVENTS AT THEIR SERVERS

abbrev left_in : Cluster → ℕ → Server × EntryView → Cluster × EntryView
left_in k n d = (record k { servers = with_server k.servers n d.0 }, d.1)

-- the server that did the event, and what it left
pub record Acted (k z : Cluster) (e : Event) : Type 0 where
  pub server : Server
  pub there : server_at k.servers e.server ≡ Some server
  pub entry : EntryView
  pub new : Server
  pub done : does k.code k.options server e.what ≡ Some (new, entry)
  pub is : z ≡ record k { servers = with_server k.servers e.server new }

pub acted : (k z : Cluster) (e : Event) (v : EntryView) → act_at k e ≡ Some (z, v) → Acted k z e
acted k z e v f = by (server_at k.servers e.server) refl f
  where
    result : (s : Server) → server_at k.servers e.server ≡ Some s → (d : Option (Server × EntryView)) → does k.code k.options s e.what ≡ d → option_map (left_in k e.server) d ≡ Some (z, v) → Acted k z e
    result s at None q g = absurd cc
    result s at (Some x) q g =
        record { server = s; there = at; entry = x.1; new = x.0; done = q; is = sym (ap (λ (y : Cluster × EntryView). y.0) (some_is g)) }

    enabled_so : (s : Server) → server_at k.servers e.server ≡ Some s → (b : Bool) → option_map (left_in k e.server) (if b then does k.code k.options s e.what else None) ≡ Some (z, v) → Acted k z e
    enabled_so s at true g = result s at (does k.code k.options s e.what) refl g
    enabled_so s at false g = absurd cc

    by : (o : Option Server) → server_at k.servers e.server ≡ o → then_some o (λ s. option_map (left_in k e.server) (done_at k e.what s)) ≡ Some (z, v) → Acted k z e
    by None at g = absurd cc
    by (Some s) at g = enabled_so s at (enabled k.options s e.what) g

-- AN EVICTION
pub evictions_unmoved : EvictionsUnmoved
evictions_unmoved k z e w v what f = by (can_evict s.rest.cache w) (ap (does k.code k.options s) (sym what) ∙ a.done)
  where
    a : Acted k z e
    a = acted k z e v f

    s : Server
    s = a.server

    by : (b : Bool) → option_map (left_by s.events None None) (option_map (λ (y : Work). record (begin_at s) { work = y }) (if b then Some (note (act.Evict w) (with_cache (evict s.rest.cache w) (begin_at s).work)) else None)) ≡ Some (a.new, a.entry) → Unmoved k z
    by false g = absurd cc
    by true g =
        let new : record { rest = record s.rest { cache = evict s.rest.cache w }; threads = s.threads; events = s.events + 1 } ≡ a.new = ap (λ (y : Server × EntryView). y.0) (some_is g) in
        subst (λ y. Unmoved k y) (sym a.is)
        (subst (λ y. Unmoved k (record k { servers = with_server k.servers e.server y })) new
        (unmoved k (record k { servers = with_server k.servers e.server (record { rest = record s.rest { cache = evict s.rest.cache w }; threads = s.threads; events = s.events + 1 }) }) refl
        (servers_alike e.server k.servers s (record { rest = record s.rest { cache = evict s.rest.cache w }; threads = s.threads; events = s.events + 1 }) a.there (cache_alike s.rest s.threads (evict s.rest.cache w) s.events (s.events + 1)))))
