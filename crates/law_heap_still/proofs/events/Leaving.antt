-- An object that leaves its address for a message shows what it showed.
use Rattle.std.proofs.Common.{◌≡◌, ℕ, List, [], ◌∷◌, ◌++◌, Some, ◌≤◌, refl, sym, subst, arith}
use Rattle.std.specs.Prelude.{slice_get}
use Rattle.law_counts_sums.specs.Below.fr_base.declared.name.ObjNo.{ObjNo}
use Rattle.law_counts_sums.specs.Below.global_addr.Words.{address_of}
use Rattle.law_counts_sums.specs.Below.owner_box.Partition.{freed}
use Rattle.law_counts_sums.specs.Below.server_msgs.declared.message.Message.TheVariants as message
use Rattle.law_counts_sums.specs.Below.journal.declared.act.Act.TheVariants as act
use Rattle.law_counts_sums.specs.Below.server_model.declared.event.What.TheVariants.{Deliver}
use Rattle.law_counts_sums.specs.Below.server_model.Servers.{Rest, Server, Cluster, server_at}
use Rattle.law_counts_sums.specs.Below.server_model.Work.{Work, note, with_partition, look_object}
use Rattle.law_counts_sums.specs.Below.server_model.Objects.{deliver_move}
use Rattle.law_counts_sums.specs.Below.server_model.Events.{received, does}
use Rattle.law_counts_sums.specs.Below.coherent_memory.Names.{tot}
use Rattle.law_counts_sums.specs.Below.coherent_memory.Things.{Thing, lies, sent, partition_things, message_things, servers_things, things_of}
use Rattle.law_counts_sums.specs.Below.coherent_memory.Weights.{states, below}
use Rattle.law_counts_sums.specs.Below.coherent_memory.Coherent.{IsSound}
use Rattle.law_counts_sums.specs.Sums.{is_server}
use Rattle.law_counts_sums.specs.Laws.{Gives}
use Rattle.law_counts_sums.proofs.Trades.{tot-append}
use Rattle.law_counts_sums.proofs.Rules.{Placed}
use Rattle.law_counts_sums.proofs.Results.{map_gives}
use Rattle.law_counts_sums.proofs.Bags.{all_standing, rest_things, of_partition, server_same}
use Rattle.law_counts_sums.proofs.Events.{others_of, tot-server}
use Rattle.law_counts_sums.proofs.Cells.{frees, not_free, looked}
use Rattle.law_counts_sums.proofs.Objects.{one_state}
use Rattle.law_counts_sums.proofs.ObjectMessages.{looked_object}
use Rattle.law_counts_sums.proofs.Sound.{sound_has_sums}
use Rattle.law_heap_still.specs.events.Shows.{sign_of}
use Rattle.law_heap_still.proofs.events.Sites.{Moves, sends, beside_still, ServerStill, deliveries}
use Rattle.law_heap_still.proofs.events.Addresses.{address_unseen}

module _ (k : Cluster) (sound : IsSound k) (number : ℕ) (s : Server) (here : server_at k.servers number ≡ Some s) where
  abbrev pub others : List Thing
  others = all_standing s.rest.number s.threads ++ servers_things (others_of k.servers number)

  pub placed_here : Placed (rest_things s.rest.number s.events s.rest ++ others)
  placed_here =
      let sums = sound_has_sums k sound in
      record { one_state = λ a. omega (arith, sums.one_state a, same (states a), same (below a)); servers_differ = λ n. omega (arith, sums.servers_differ n, same (is_server n)) }
    where
      same : (f : Thing → ℕ) → tot f (things_of k) ≡ tot f (rest_things s.rest.number s.events s.rest ++ others)
      same f =
          let n = s.rest.number in
          let r = rest_things n s.events s.rest in
          let ts = all_standing n s.threads in
          let rest = servers_things (others_of k.servers number) in
          omega (arith, (tot-server f k.servers number s s here).0, server_same s f, tot-append f ts r, tot-append f r (ts ++ rest), tot-append f ts rest)

  gives : (w : ℕ) (o : ObjNo) (a t : ℕ) (x : Work) → x.rest.number ≡ s.rest.number → x.rest.partition ≡ s.rest.partition → Gives (λ (y : Work). Moves (sent s.rest.number (message.Move w o a t) ∷ []) [] x.rest y.rest) (deliver_move w o a t x)
  gives w o a t x e f =
      map_gives (λ (y : Work). Moves (sent s.rest.number (message.Move w o a t) ∷ []) [] x.rest y.rest) (look_object x.rest.partition w o) _ (λ c q.
      let p = x.rest.partition in
      let gone : List Thing = sent s.rest.number (message.Move w o a t) ∷ [] in
      let hand : List Thing = lies x.rest.number (address_of w) c ∷ [] in
      let at : slice_get p.cells (address_of w) ≡ Some (Some c) = looked p w c (looked_object p w o c q).0 in
      let few : tot (states (x.rest.number, address_of w)) (partition_things x.rest.number p) ≤ 1 =
      subst (λ m. tot (states (m, address_of w)) (partition_things m p) ≤ 1) (sym e)
      (subst (λ u. tot (states (s.rest.number, address_of w)) (partition_things s.rest.number u) ≤ 1) (sym f) (one_state s.rest.number s.events s.rest others placed_here (address_of w))) in
      let free = not_free x.rest.number p (address_of w) c at few in
      let r2 : Rest = record x.rest { partition = freed p w } in
      let u = of_partition x.rest.number 0 x.rest (freed p w) (frees x.rest.number p w c at free) in
      let left : Moves gone hand x.rest r2 = record {
        number = refl;
        alike = λ v z. (let g : Thing → ℕ = λ y. v (sign_of y) in omega (arith, z, u.before g, u.after g, address_unseen v z x.rest.number p.limit w));
      } in
      sends gone hand x.rest (note (act.Give o w a) (with_partition (freed p w) x)) a (message.Moved w c t) left (λ v z. omega (arith, z)))

  pub moves : (i w : ℕ) (o : ObjNo) (a t : ℕ) → slice_get s.rest.inbox i ≡ Some (message.Move w o a t) → Gives (ServerStill k s) (does k.code k.options s (Deliver i))
  moves i w o a t q = deliveries k s i (message.Move w o a t) q (beside_still (message_things s.rest.number (message.Move w o a t)) (deliver_move w o a t) (received i s) (gives w o a t (received i s).work refl refl))
