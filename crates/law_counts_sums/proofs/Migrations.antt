-- A thread leaves: its uses end, and it goes as a parcel.
use Rattle.std.proofs.Common.{if◌then◌else◌, ◌≡◌, ℕ, ◌+◌, Bool, true, false, List, [], ◌∷◌, ◌++◌, Some, None, refl, sym, subst, arith}
use Rattle.std.specs.Prelude.{map}
use Rattle.coherent_memory.specs.Below.fr_base.declared.instruction.Instr.{Instr}
use Rattle.coherent_memory.specs.Below.fr_base.declared.settings.Options.{Options}
use Rattle.coherent_memory.specs.Below.read_cache.Cache.{Copy}
use Rattle.coherent_memory.specs.Below.mut_borrow.declared.shared.SharedRef.{SharedRef}
use Rattle.coherent_memory.specs.Below.thread_state.View.{ThreadState}
use Rattle.coherent_memory.specs.Below.thread_state.declared.value.Value.{Value}
use Rattle.coherent_memory.specs.Below.thread_state.declared.value.Value.TheVariants as value
use Rattle.coherent_memory.specs.Below.server_msgs.declared.message.Message.TheVariants as message
use Rattle.coherent_memory.specs.Below.journal.declared.act.Act.TheVariants as act
use Rattle.coherent_memory.specs.Below.server_model.declared.event.What.TheVariants.{Migrate}
use Rattle.coherent_memory.specs.Below.server_model.Servers.{Server}
use Rattle.coherent_memory.specs.Below.server_model.Work.{Work, Site, note, with_cache, thread_in, without_thread}
use Rattle.coherent_memory.specs.Below.migration.Packing.{unpin_all, unpinned, pinned_word, pinned_words, used_words, packed, pack_thread}
use Rattle.coherent_memory.specs.Below.server_model.Moving.{depart, migrate}
use Rattle.coherent_memory.specs.Below.server_model.Events.{begin_at, left_by, does}
use Rattle.coherent_memory.specs.Names.{tot}
use Rattle.coherent_memory.specs.Things.{Thing, Spot, Location, shares, uses, stands, gift_things, walk_things, value_things, slot_things, temp_things, things_at, thread_things, server_things}
use Rattle.law_counts_sums.specs.Laws.{Gives}
use Rattle.law_counts_sums.proofs.Trades.{tot-append, trade_whole, trade_right}
use Rattle.law_counts_sums.proofs.Rules.{Rule, none, turned, comes, goes, sends, packs, beside, in_turn, Kept}
use Rattle.law_counts_sums.proofs.Results.{then_gives, over_gives}
use Rattle.law_counts_sums.proofs.Bags.{WorkOk, SiteOk, all_standing, rest_things}
use Rattle.law_counts_sums.proofs.Chains.{takes, work_sends}
use Rattle.law_counts_sums.proofs.Uses.{ends_all}
use Rattle.law_counts_sums.proofs.Events.{Left, begins_site, ends_site}

same : (xs : List Thing) → Rule xs xs
same xs = turned xs xs (λ f. refl)

-- uses of words, wherever they are counted
abbrev all_uses : ℕ → List ℕ → List Thing
all_uses n ws = things_at (walk_things n) 0 ws

use_shift : (f : Thing → ℕ) (n i j : ℕ) (ws : List ℕ) → tot f (things_at (walk_things n) i ws) ≡ tot f (things_at (walk_things n) j ws)
use_shift f n i j [] = refl
use_shift f n i j (w ∷ ws) = omega (arith, use_shift f n (i + 1) (j + 1) ws)

use_append : (f : Thing → ℕ) (n : ℕ) (xs ys : List ℕ) → tot f (all_uses n (xs ++ ys)) ≡ tot f (all_uses n xs) + tot f (all_uses n ys)
use_append f n [] ys = omega arith
use_append f n (x ∷ xs) ys = omega (arith, use_append f n xs ys, use_shift f n 1 0 xs, use_shift f n 1 0 (xs ++ ys))

module _ (n target : ℕ) where
  -- a value without its use
  value_rule : (p : Spot) (l : Location) (v : Value) (vs : List Value) → Rule (value_things n p l v ++ all_uses n (pinned_words vs)) (all_uses n (pinned_words (v ∷ vs)) ++ value_things target p l (unpinned v))
  value_rule p l (value.Shared r) vs = by r.pinned refl
    where
      bare : SharedRef
      bare = record r { pinned = false }

      by : (b : Bool) → r.pinned ≡ b → Rule ((shares l r ∷ (if r.pinned then uses n r.word ∷ [] else [])) ++ all_uses n (pinned_words vs)) (all_uses n (pinned_word r r.pinned (pinned_words vs)) ++ shares l (record r { pinned = false }) ∷ [])
      by true q =
          let ws = pinned_words vs in
          subst (λ b. Rule ((shares l r ∷ (if b then uses n r.word ∷ [] else [])) ++ all_uses n ws) (all_uses n (pinned_word r b ws) ++ shares l (record r { pinned = false }) ∷ [])) (sym q)
          (in_turn (beside (in_turn (goes (shares l r) refl) (comes (shares l (record r { pinned = false })) refl)) (same (uses n r.word ∷ all_uses n ws)))
          (turned (shares l (record r { pinned = false }) ∷ uses n r.word ∷ all_uses n ws) (all_uses n (r.word ∷ ws) ++ shares l (record r { pinned = false }) ∷ [])
          (λ f. omega (arith, use_shift f n 1 0 ws, tot-append f (all_uses n (r.word ∷ ws)) (shares l (record r { pinned = false }) ∷ [])))))
      by false q =
          let ws = pinned_words vs in
          subst (λ b. Rule ((shares l r ∷ (if b then uses n r.word ∷ [] else [])) ++ all_uses n ws) (all_uses n (pinned_word r b ws) ++ shares l (record r { pinned = false }) ∷ [])) (sym q)
          (in_turn (beside (in_turn (goes (shares l r) refl) (comes (shares l (record r { pinned = false })) refl)) (same (all_uses n ws)))
          (turned (shares l (record r { pinned = false }) ∷ all_uses n ws) (all_uses n ws ++ shares l (record r { pinned = false }) ∷ []) (λ f. omega (arith, tot-append f (all_uses n ws) (shares l (record r { pinned = false }) ∷ [])))))
  value_rule p l value.Gone vs = turned _ _ (λ f. omega (arith, tot-append f (all_uses n (pinned_words vs)) []))
  value_rule p l (value.Own v) vs = turned _ _ (λ f. omega (arith, tot-append f (all_uses n (pinned_words vs)) (value_things target p l (value.Own v))))
  value_rule p l (value.SharedSlot i) vs = turned _ _ (λ f. omega (arith, tot-append f (all_uses n (pinned_words vs)) []))
  value_rule p l (value.MutSlot i) vs = turned _ _ (λ f. omega (arith, tot-append f (all_uses n (pinned_words vs)) []))
  value_rule p l (value.Mut r) vs = turned _ _ (λ f. omega (arith, tot-append f (all_uses n (pinned_words vs)) (value_things target p l (value.Mut r))))
  value_rule p l (value.Held m) vs = turned _ _ (λ f. omega (arith, tot-append f (all_uses n (pinned_words vs)) (value_things target p l (value.Held m))))

  values_rule : (place : ℕ → Spot) (at : ℕ → Location) (i : ℕ) (vs : List Value)
      → Rule (things_at (λ j v. value_things n (place j) (at j) v) i vs) (all_uses n (pinned_words vs) ++ things_at (λ j v. value_things target (place j) (at j) v) i (map unpinned vs))
  values_rule place at i [] = none
  values_rule place at i (v ∷ vs) =
      let here = value_things n (place i) (at i) v in
      let there = value_things target (place i) (at i) (unpinned v) in
      let rest = things_at (λ j v. value_things target (place j) (at j) v) (i + 1) (map unpinned vs) in
      let ws = all_uses n (pinned_words vs) in
      in_turn (beside (same here) (values_rule place at (i + 1) vs))
      (in_turn (turned (here ++ (ws ++ rest)) ((here ++ ws) ++ rest) (λ f. omega (arith, tot-append f here (ws ++ rest), tot-append f ws rest, tot-append f (here ++ ws) rest, tot-append f here ws)))
      (in_turn (beside (value_rule (place i) (at i) v vs) (same rest))
      (turned ((all_uses n (pinned_words (v ∷ vs)) ++ there) ++ rest) (all_uses n (pinned_words (v ∷ vs)) ++ (there ++ rest))
      (λ f. omega (arith, tot-append f (all_uses n (pinned_words (v ∷ vs)) ++ there) rest, tot-append f (all_uses n (pinned_words (v ∷ vs))) there, tot-append f (all_uses n (pinned_words (v ∷ vs))) (there ++ rest), tot-append f there rest)))))

  -- the thread as a parcel, and its uses
  pack_rule : (y : ThreadState) → Rule (thread_things n false y) (all_uses n (used_words y) ++ thread_things target true (packed (record y { moved_since_step = true })))
  pack_rule y =
      let p = packed (record y { moved_since_step = true }) in
      let t = y.number in
      let gift = gift_things t y.gift in
      let walk = all_uses n y.walk in
      let a = things_at (slot_things n t) 0 y.slots in
      let b = things_at (temp_things n t) 0 y.temps in
      let ua = all_uses n (pinned_words y.slots) in
      let ub = all_uses n (pinned_words y.temps) in
      let a2 = things_at (slot_things target t) 0 (map unpinned y.slots) in
      let b2 = things_at (temp_things target t) 0 (map unpinned y.temps) in
      let slots : Rule a (ua ++ a2) = values_rule (λ i. Rattle.coherent_memory.specs.Things.in_slot t i) (λ i. Rattle.coherent_memory.specs.Things.at_slot t i) 0 y.slots in
      let temps : Rule b (ub ++ b2) = values_rule (λ i. Rattle.coherent_memory.specs.Things.in_temp t i) (λ i. Rattle.coherent_memory.specs.Things.at_temp t i) 0 y.temps in
      in_turn (turned (thread_things n false y) ((stands n false y ∷ (gift ++ walk)) ++ (a ++ b)) (λ f. omega (arith, tot-append f (gift ++ walk ++ a) b, tot-append f (gift ++ walk) a, tot-append f (stands n false y ∷ (gift ++ walk)) (a ++ b), tot-append f a b)))
      (in_turn (beside (beside (packs n target false true y p refl) (same (gift ++ walk))) (beside slots temps))
      (turned ((stands target true p ∷ (gift ++ walk)) ++ ((ua ++ a2) ++ (ub ++ b2))) (all_uses n (used_words y) ++ thread_things target true p)
      (λ f. omega (
        arith,
        use_append f n (y.walk ++ pinned_words y.slots) (pinned_words y.temps),
        use_append f n y.walk (pinned_words y.slots),
        tot-append f (all_uses n (used_words y)) (thread_things target true p),
        tot-append f (gift ++ [] ++ a2) b2,
        tot-append f (gift ++ []) a2,
        tot-append f gift [],
        tot-append f (stands target true p ∷ (gift ++ walk)) ((ua ++ a2) ++ (ub ++ b2)),
        tot-append f gift walk,
        tot-append f (ua ++ a2) (ub ++ b2),
        tot-append f ua a2,
        tot-append f ub b2,
      ))))

module _ {K : List Thing → Type 0} (k : Kept K) (n e : ℕ) (others : List Thing) where
  parcels : (target : ℕ) (p : ThreadState) (w : Work) → WorkOk K n e (thread_things target true p ++ others) w → WorkOk K n e others (Rattle.coherent_memory.specs.Below.server_model.Work.send target (message.Migrate p) w)
  parcels target p w g =
      let parcel = thread_things target true p in
      work_sends k n e (parcel ++ others) w target (message.Migrate p) (record { rest = others; before = λ f. tot-append f parcel others; after = λ f. omega arith }) (beside (sends target (message.Migrate p) refl) (same parcel)) g

  pub migrates : (t target : ℕ) (x : Site) → SiteOk K n e others x → Gives (SiteOk K n e others) (migrate t target x)
  migrates t target x g =
      then_gives (SiteOk K n e others) (thread_in x.threads t) _ (λ y q.
      let b = all_standing n (without_thread x.threads t) in
      let u = takes k n e others t x y q g in
      let p = packed (record y { moved_since_step = true }) in
      let parcel = thread_things target true p in
      let gone = all_uses n (used_words y) in
      let bag : K ((gone ++ parcel) ++ (rest_things n e x.work.rest ++ (b ++ others))) = k.trades (trade_right (rest_things n e x.work.rest ++ (b ++ others)) (trade_whole (thread_things n false y) (gone ++ parcel))) (pack_rule n target y) u.bag in
      let there : WorkOk K n e (gone ++ (parcel ++ (b ++ others))) x.work = record {
        number = g.number;
        bag = k.same _ _ (λ f.
            let r = rest_things n e x.work.rest in
            omega (arith, tot-append f (gone ++ parcel) (r ++ (b ++ others)), tot-append f gone parcel, tot-append f r (b ++ others), tot-append f r (gone ++ (parcel ++ (b ++ others))), tot-append f gone (parcel ++ (b ++ others)), tot-append f parcel (b ++ others))) bag;
      } in
      over_gives (λ (z : ThreadState × List Copy). (z.0 ≡ p) × WorkOk K n e (parcel ++ (b ++ others)) (with_cache z.1 x.work)) (SiteOk K n e others) (pack_thread (record y { moved_since_step = true }) x.work.rest.cache) _
      (over_gives (λ (cs : List Copy). WorkOk K n e (parcel ++ (b ++ others)) (with_cache cs x.work)) (λ (z : ThreadState × List Copy). (z.0 ≡ p) × WorkOk K n e (parcel ++ (b ++ others)) (with_cache z.1 x.work)) (unpin_all (used_words y) x.work.rest.cache) _
      (ends_all k n e (parcel ++ (b ++ others)) 0 (used_words y) x.work there) (λ cs v. (refl, v)))
      (λ z v.
      let sent_off = left target x z.0 z.1 p b v.0 v.1 in record {
        number = sent_off.number;
        bag = k.same _ _ (λ f.
            let r = rest_things n e (depart target x.work z).rest in
            omega (arith, tot-append f r (b ++ others), tot-append f b others, tot-append f b (r ++ others), tot-append f r others)) sent_off.bag;
      }))
    where
      left : (target : ℕ) (x : Site) (z : ThreadState) (cs : List Copy) (p : ThreadState) (b : List Thing) → z ≡ p → WorkOk K n e (thread_things target true p ++ (b ++ others)) (with_cache cs x.work) → WorkOk K n e (b ++ others) (depart target x.work (z, cs))
      left target x z cs p b q v = all (subst (λ y. WorkOk K n e (thread_things target true y ++ (b ++ others)) (with_cache cs x.work)) (sym q) v)
        where
          all : WorkOk K n e (thread_things target true z ++ (b ++ others)) (with_cache cs x.work) → WorkOk K n e (b ++ others) (depart target x.work (z, cs))
          all u = one_sent (note (act.Depart z.number target) (with_cache cs x.work)) (record { number = u.number; bag = u.bag })
            where
              one_sent : (w : Work) → WorkOk K n e (thread_things target true z ++ (b ++ others)) w → WorkOk K n e (b ++ others) (Rattle.coherent_memory.specs.Below.server_model.Work.send target (message.Migrate z) w)
              one_sent w u = work_sends k n e (thread_things target true z ++ (b ++ others)) w target (message.Migrate z) (record { rest = b ++ others; before = λ f. tot-append f (thread_things target true z) (b ++ others); after = λ f. omega arith }) (beside (sends target (message.Migrate z) refl) (same (thread_things target true z))) u

module _ {K : List Thing → Type 0} (k : Kept K) where
  pub migrates_keep : (code : List Instr) (o : Options) (others : List Thing) (s : Server) (t target : ℕ) → K (server_things s ++ others) → Gives (Left k others) (does code o s (Migrate t target))
  migrates_keep code o others s t target g =
      over_gives (SiteOk K s.rest.number s.events others) (Left k others) (migrate t target (begin_at s)) (left_by s.events (Some t) None)
      (migrates k s.rest.number s.events others t target (begin_at s) (begins_site k others s g)) (λ x u. ends_site k s.rest.number s.events others (Some t) None x u)
