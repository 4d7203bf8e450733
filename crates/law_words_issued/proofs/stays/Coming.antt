-- An object comes to a server, from its partition to the cluster with the messages handed over.
use Rattle.std.proofs.Common.{◌≡◌, ◌≤◌, inl, inr, ℕ, ◌+◌, true, false, Bool, nat_lt, Some, option_map, refl, sym, ap, subst, ◌∙◌, arith}
use Rattle.law_words_issued.specs.Below.fr_base.declared.name.ObjNo.{ObjNo}
use Rattle.law_words_issued.specs.Below.global_addr.Words.{colour_of}
use Rattle.law_words_issued.specs.Below.heap_partition.declared.value.Cell.{Cell}
use Rattle.law_words_issued.specs.Below.journal.View.{EntryView}
use Rattle.law_words_issued.specs.Below.server_model.declared.event.Event.{Event}
use Rattle.law_words_issued.specs.Below.server_model.Servers.{Server, Cluster, server_at}
use Rattle.law_words_issued.specs.Below.server_model.Work.{then_some}
use Rattle.law_words_issued.specs.Below.server_model.Events.{enabled, does}
use Rattle.law_words_issued.specs.Below.server_model.Clusters.{with_server, done_at, act_at, apply}
use Rattle.law_words_issued.specs.Below.coherent_memory.Names.{Among, tot, one, same_object}
use Rattle.law_words_issued.specs.Below.coherent_memory.Things.{Thing, lies, partition_things, servers_things, things_of}
use Rattle.law_words_issued.specs.Below.coherent_memory.Sight.{issued, sight}
use Rattle.law_words_issued.specs.Below.coherent_memory.Coherent.{IsSound}
use Rattle.law_words_issued.proofs.Below.coherent_memory.Words.{named, itself}
use Rattle.law_words_issued.specs.Below.law_counts_sums.Laws.{Gives, FewEvents}
use Rattle.law_words_issued.proofs.Below.law_counts_sums.Sound.{sound_has_sums}
use Rattle.law_words_issued.proofs.Below.law_counts_sums.Results.{over_gives, test_gives}
use Rattle.law_words_issued.proofs.Below.law_counts_sums.Events.{others_of, tot-server}
use Rattle.law_words_issued.proofs.Below.law_counts_sums.Applied.{handed_on}
use Rattle.law_words_issued.proofs.Below.law_counts_sums.Sending.{each_event_sends}
use Rattle.law_words_issued.proofs.stands.Elsewhere.{SeesAddresses, partition_alone}
use Rattle.law_walks_own.specs.Below.law_words_kept.prepared.Requests.{WordsRise}
use Rattle.law_words_issued.proofs.stays.Places.{spotted, spotted_sees, lying, lying_sees, laid, laid_sees, next_address, Comes}
use Rattle.law_words_issued.proofs.stays.Rising.{weighs, Lay, still_issued, states_differ}

-- a cluster after another one: the object came to that address of a server, no other one did, and no word below the limit loses its place
pub record ComesTo (k : Cluster) (n a : ℕ) (o : ObjNo) (c : Cluster) : Type 0 where
  pub options : c.options ≡ k.options
  pub here : 1 ≤ tot (laid n a o) (things_of c)
  pub lay : (b : ObjNo) → tot (lying b) (things_of c) ≤ tot (lying b) (things_of k) + one (same_object o b)
  pub keeps : (w : ℕ) → nat_lt (colour_of w) k.options.colours ≡ true → tot (spotted k.options.colours w) (things_of k) ≤ tot (spotted k.options.colours w) (things_of c)

module _ (k : Cluster) (e : Event) (s : Server) (here : server_at k.servers e.server ≡ Some s) (o : ObjNo) where
  abbrev n : ℕ
  n = s.rest.number

  abbrev a : ℕ
  a = next_address s.rest.partition

  abbrev C : ℕ
  C = k.options.colours

  -- at its server
  abbrev pub Brought : Server × EntryView → Type 0
  Brought r = (r.0.rest.number ≡ n) × Comes C n o s.rest.partition r.0.rest.partition

  -- a weight of addresses is that of the partition
  beside : (f : Thing → ℕ) → SeesAddresses f → (r : Server) → r.rest.number ≡ n
      → (rest : ℕ) × ((tot f (things_of k) ≡ tot f (partition_things n s.rest.partition) + rest) × (tot f (things_of (record k { servers = with_server k.servers e.server r })) ≡ tot f (partition_things n r.rest.partition) + rest))
  beside f sees r same =
      let x = tot-server f k.servers e.server s r here in
      let there : tot f (partition_things r.rest.number r.rest.partition) ≡ tot f (partition_things n r.rest.partition) = ap (λ m. tot f (partition_things m r.rest.partition)) same in
      (tot f (servers_things (others_of k.servers e.server)), (omega (arith, x.0, partition_alone f sees s), omega (arith, x.1, there, partition_alone f sees r)))

  acted : Gives Brought (does k.code k.options s e.what) → Gives (λ (x : Cluster × EntryView). ComesTo k n a o x.0) (act_at k e)
  acted goes =
      subst (λ q. Gives (λ (x : Cluster × EntryView). ComesTo k n a o x.0) (then_some q (λ s2. option_map (λ x. (record k { servers = with_server k.servers e.server x.0 }, x.1)) (done_at k e.what s2)))) (sym here)
      (over_gives Brought (λ (x : Cluster × EntryView). ComesTo k n a o x.0) (done_at k e.what s) _ (test_gives Brought (enabled k.options s e.what) (does k.code k.options s e.what) (λ on. goes))
      (λ r u. record {
        options = refl;
        lay = λ b. (let x = beside (lying b) (lying_sees b) r.0 u.0 in let on = u.1 in omega (arith, (x.1).0, (x.1).1, on.lay b));
        here = (let x = beside (laid n a o) (laid_sees n a o) r.0 u.0 in let on = u.1 in let at = on.here in omega (arith, (x.1).1, at));
        keeps = λ w low. (let x = beside (spotted C w) (spotted_sees C w) r.0 u.0 in let on = u.1 in omega (arith, (x.1).0, (x.1).1, on.keeps w low));
      }))

  pub comes_to : IsSound k → FewEvents k → Gives Brought (does k.code k.options s e.what) → Gives (λ (x : Cluster × EntryView). ComesTo k n a o x.0) (apply k e)
  comes_to sound few goes =
      handed_on (ComesTo k n a o) (λ c x y same g. record {
        options = g.options;
        lay = λ q. (let before = g.lay q in omega (arith, same (lying q), before));
        here = (let before = g.here in omega (arith, same (laid n a o), before));
        keeps = λ w low. (let before = g.keeps w low in omega (arith, same (spotted C w), before));
      }) k e (each_event_sends k e sound few) (acted goes)

-- so what was issued is, where the object's word is new
module _ (k d : Cluster) (n b : ℕ) (o : ObjNo) (sound : IsSound k) (rise : WordsRise k d) (goes : ComesTo k n b o d) where
  pub issued_where_it_comes : ((r a : ℕ) (c : Cell) → Among (lies r a c) (things_of d) → c.object ≡ o → issued (sight k) (rise.has_words.word o) ≡ false) → (w : ℕ) → nat_lt (colour_of w) k.options.colours ≡ true → issued (sight k) w ≡ true → issued (sight d) w ≡ true
  issued_where_it_comes new = still_issued k d rise (states_differ k (sound_has_sums k sound)) goes.options lay goes.keeps
    where
      lay : (r a : ℕ) (c : Cell) → Among (lies r a c) (things_of d) → Lay k d rise c.object
      lay r a c h = by (same_object o c.object) refl
        where
          there : 1 ≤ tot (lying c.object) (things_of d)
          there = omega (arith, weighs (lying c.object) (lies r a c) (things_of d) h, ap one (itself c.object c.object refl))

          by : (b : Bool) → same_object o c.object ≡ b → Lay k d rise c.object
          by true e = let same : o ≡ c.object = named o c.object e in inl (ap (λ q. issued (sight k) (rise.has_words.word q)) (sym same) ∙ new r a c h (sym same))
          by false e = inr (omega (arith, there, goes.lay c.object, ap one e))
