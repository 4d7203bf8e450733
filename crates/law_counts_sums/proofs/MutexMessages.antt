-- Messages about mutexes: what each delivery keeps.
use Rattle.std.proofs.Common.{◌≡◌, ℕ, ◌+◌, ◌-◌, ◌<◌, ◌==◌, ◌&&◌, Bool, true, false, nat_lt, if◌then◌else◌, List, [], ◌∷◌, ◌++◌, Option, Some, None, refl, sym, ap, subst, ◌∙◌, arith}
use Rattle.std.specs.Prelude.{◌^◌}
use Rattle.std.proofs.lemmas.Bool.{eqb-true}
use Rattle.std.proofs.lemmas.Bool.Decides.{nat_tests}
use Rattle.coherent_memory.specs.Below.fr_base.declared.name.MutexNo.{MutexNo}
use Rattle.coherent_memory.specs.Below.fr_base.declared.release.Released.TheVariants as released
use Rattle.coherent_memory.specs.Below.heap_partition.declared.value.Owned.{Owned}
use Rattle.coherent_memory.specs.Below.mutex_home.Mutexes.{Mutex, Mutexes, mutex_in, put_mutex, end_mutex, asked_of, ask, back_to, back_out, give_back, more, last_less, less_of, less}
use Rattle.coherent_memory.specs.Below.mutex_home.declared.answers.Asked.{Asked}
use Rattle.coherent_memory.specs.Below.mutex_home.declared.answers.Asked.TheVariants.{Queued, Granted}
use Rattle.coherent_memory.specs.Below.mutex_home.declared.answers.Back.{Back}
use Rattle.coherent_memory.specs.Below.mutex_home.declared.answers.Back.TheVariants as back
use Rattle.coherent_memory.specs.Below.server_msgs.declared.message.Message.TheVariants as message
use Rattle.coherent_memory.specs.Below.journal.declared.act.Act.TheVariants as act
use Rattle.coherent_memory.specs.Below.server_model.Work.{Work, note, with_mutexes}
use Rattle.coherent_memory.specs.Below.server_model.Sharing.{grant, answer_lock, deliver_lock, answer_back, deliver_unlock, deliver_dup, give_up_left, release_mutex}
use Rattle.coherent_memory.specs.Names.{tot}
use Rattle.coherent_memory.specs.Things.{Thing, in_hand, as_content, holds, sent, at_home, queued, things_at, content_things, queue_things, mutex_things}
use Rattle.law_counts_sums.specs.Laws.{Gives}
use Rattle.law_counts_sums.proofs.Trades.{Trade, Same, tot-append, tot-push, trade_none}
use Rattle.law_counts_sums.proofs.Rules.{Rule, none, turned, hands_on, sends, turns_mutex, queues, dequeues, dups, less_share, closes, beside, in_turn, padded, padded_news, Kept}
use Rattle.law_counts_sums.proofs.Results.{test_gives, over_gives}
use Rattle.law_counts_sums.proofs.Bags.{WorkOk, of_mutexes}
use Rattle.law_counts_sums.proofs.Chains.{work_trades, work_sends}
use Rattle.law_counts_sums.proofs.Objects.{counts_stay, one_goes}
use Rattle.law_counts_sums.proofs.Uses.{gives_up}
use Rattle.law_counts_sums.proofs.MutexLists.{found_number, mutex_changes, mutex_goes}

abbrev queue_of : Mutex → List Thing
queue_of x = things_at (queue_things x.number) 0 x.queue

same : (xs : List Thing) → Rule xs xs
same xs = turned xs xs (λ f. refl)

module _ {K : List Thing → Type 0} (k : Kept K) (n e : ℕ) where
  -- a mutex changes with what is beside
  puts : {others others2 : List Thing} (w : Work) (m : MutexNo) (x new : Mutex) {o2 n2 : List Thing} → mutex_in w.rest.mutexes.there m ≡ Some x → new.number ≡ x.number → Trade others o2 n2 others2
      → Rule (mutex_things n 0 x ++ o2) (mutex_things n 0 new ++ n2) → WorkOk K n e others w → WorkOk K n e others2 (with_mutexes (put_mutex w.rest.mutexes new) w)
  puts w m x new q named u r g =
      let ms = put_mutex w.rest.mutexes new in
      work_trades k n e w (with_mutexes ms w) refl (of_mutexes n e w.rest ms (mutex_changes n w.rest.mutexes.there m x new q named)) u
      (beside (counts_stay n e w.rest (record w.rest { mutexes = ms }) refl) r) g

  -- a mutex goes
  ends_mutex : {others others2 : List Thing} (w : Work) (m : MutexNo) (x : Mutex) {o2 n2 : List Thing} → mutex_in w.rest.mutexes.there m ≡ Some x → Trade others o2 n2 others2
      → Rule (mutex_things n 0 x ++ o2) n2 → WorkOk K n e others w → WorkOk K n e others2 (with_mutexes (end_mutex w.rest.mutexes x.number) w)
  ends_mutex w m x q u r g =
      let ms = end_mutex w.rest.mutexes x.number in
      work_trades k n e w (with_mutexes ms w) refl (of_mutexes n e w.rest ms (mutex_goes n w.rest.mutexes.there m x q)) u
      (beside (counts_stay n e w.rest (record w.rest { mutexes = ms }) refl) r) g

  -- LOCKS

  -- what is granted is in the hand
  abbrev granted_things : Asked → List Thing
  granted_things Queued = []
  granted_things (Granted v) = holds in_hand v ∷ []

  queue_rule : (x : Mutex) (r t : ℕ) → Rule (mutex_things n 0 x ++ []) (mutex_things n 0 (record x { queue = x.queue ++ (r, t) ∷ [] }) ++ [])
  queue_rule x r t =
      let y : Mutex = record x { queue = x.queue ++ (r, t) ∷ [] } in
      let c = content_things x.number x.content in
      padded (in_turn (beside (turns_mutex n x y refl refl) (beside (queues x.number r t) (same (c ++ queue_of x))))
      (turned (at_home n y ∷ queued x.number r t ∷ (c ++ queue_of x)) (mutex_things n 0 y ++ [])
      (λ f. omega (arith, tot-append f c (queue_of x), tot-append f c (queue_of y), tot-append f (mutex_things n 0 y) [], tot-push (queue_things x.number) f x.queue 0 (r, t)))))

  takes_content : (x : Mutex) (v : Owned) → x.content ≡ Some v → Rule (mutex_things n 0 x ++ []) (mutex_things n 0 (record x { content = None }) ++ holds in_hand v ∷ [])
  takes_content x v q =
      let y : Mutex = record x { content = None } in
      subst (λ c. Rule ((at_home n x ∷ (content_things x.number c ++ queue_of x)) ++ []) (mutex_things n 0 y ++ holds in_hand v ∷ [])) (sym q)
      (padded (in_turn (beside (turns_mutex n x y refl refl) (beside (hands_on (as_content x.number) in_hand v) (same (queue_of x))))
      (turned (at_home n y ∷ holds in_hand v ∷ queue_of x) (mutex_things n 0 y ++ holds in_hand v ∷ []) (λ f. omega (arith, tot-append f (queue_of x) (holds in_hand v ∷ []))))))

  some_come : (xs others : List Thing) → Trade others [] xs (xs ++ others)
  some_come xs others = record { rest = others; before = λ f. omega arith; after = λ f. tot-append f xs others }

  asks : (others : List Thing) (m : MutexNo) (r t : ℕ) (w : Work) → WorkOk K n e others w → Gives (λ a. WorkOk K n e (granted_things a.1 ++ others) (with_mutexes a.0 w)) (ask w.rest.mutexes m r t)
  asks others m r t w g = by (mutex_in w.rest.mutexes.there m) refl
    where
      content : (x : Mutex) → mutex_in w.rest.mutexes.there m ≡ Some x → (c : Option Owned) → x.content ≡ c → WorkOk K n e (granted_things (asked_of w.rest.mutexes r t c x).1 ++ others) (with_mutexes (asked_of w.rest.mutexes r t c x).0 w)
      content x q None z = puts w m x (record x { queue = x.queue ++ (r, t) ∷ [] }) q refl (trade_none others) (queue_rule x r t) g
      content x q (Some v) z = puts w m x (record x { content = None }) q refl (some_come (holds in_hand v ∷ []) others) (takes_content x v z) g

      by : (o : Option Mutex) → mutex_in w.rest.mutexes.there m ≡ o → Gives (λ a. WorkOk K n e (granted_things a.1 ++ others) (with_mutexes a.0 w)) (Rattle.coherent_memory.specs.Below.mutex_home.Mutexes.asked_in w.rest.mutexes r t o)
      by None q = tt
      by (Some x) q = content x q x.content refl

  -- the content goes from the hand to a thread
  grants : (others : List Thing) (m : MutexNo) (r t : ℕ) (v : Owned) (w : Work) → WorkOk K n e (holds in_hand v ∷ others) w → WorkOk K n e others (grant m r t v w)
  grants others m r t v w g =
      work_sends k n e (holds in_hand v ∷ others) (note (act.Grant m t r) w) r (message.Granted m v t) (one_goes (holds in_hand v) others)
      (beside (sends r (message.Granted m v t) refl) (hands_on in_hand (as_content m) v)) (record { number = g.number; bag = g.bag })

  answers : (others : List Thing) (m : MutexNo) (r t : ℕ) (a : Asked) (w : Work) → WorkOk K n e (granted_things a ++ others) w → WorkOk K n e others (answer_lock m r t a w)
  answers others m r t Queued w g = g
  answers others m r t (Granted v) w g = grants others m r t v w g

  pub locks_deliver : (others : List Thing) (m : MutexNo) (r t : ℕ) (w : Work) → WorkOk K n e others w → Gives (WorkOk K n e others) (deliver_lock m r t w)
  locks_deliver others m r t w g =
      over_gives (λ a. WorkOk K n e (granted_things a.1 ++ others) (with_mutexes a.0 w)) (WorkOk K n e others) (ask w.rest.mutexes m r t) _ (asks others m r t w g) (λ a u. answers others m r t a.1 (with_mutexes a.0 w) u)

  -- A CONTENT THAT COMES BACK

  -- what is in the hand once it is back
  abbrev back_things : Back → List Thing
  back_things (back.Next s t v) = holds in_hand v ∷ []
  back_things (back.Ended v) = holds in_hand v ∷ []
  back_things back.Kept = []

  none_left : (x : Mutex) → x.content ≡ None → x.queue ≡ [] → Same (mutex_things n 0 x) (at_home n x ∷ [])
  none_left x c q f =
      let a : tot f (content_things x.number x.content) ≡ 0 = ap (λ z. tot f (content_things x.number z)) c in
      let b : tot f (queue_of x) ≡ 0 = ap (λ z. tot f (things_at (queue_things x.number) 0 z)) q in
      omega (arith, a, b, tot-append f (content_things x.number x.content) (queue_of x))

  keeps_inside : (x : Mutex) (v : Owned) → x.content ≡ None → x.queue ≡ [] → Rule (mutex_things n 0 x ++ holds in_hand v ∷ []) (mutex_things n 0 (record x { content = Some v }) ++ [])
  keeps_inside x v c q =
      let y : Mutex = record x { content = Some v } in
      let empty : (f : Thing → ℕ) → tot f (queue_of x) ≡ 0 = λ f. ap (λ z. tot f (things_at (queue_things x.number) 0 z)) q in
      in_turn (turned (mutex_things n 0 x ++ holds in_hand v ∷ []) (at_home n x ∷ holds in_hand v ∷ []) (λ f. omega (arith, none_left x c q f, tot-append f (mutex_things n 0 x) (holds in_hand v ∷ []))))
      (in_turn (beside (turns_mutex n x y refl refl) (hands_on in_hand (as_content x.number) v))
      (turned (at_home n y ∷ holds (as_content x.number) v ∷ []) (mutex_things n 0 y ++ []) (λ f. omega (arith, empty f, tot-append f (mutex_things n 0 y) []))))

  next_rule : (x : Mutex) (first : ℕ × ℕ) (rest : List (ℕ × ℕ)) → x.queue ≡ first ∷ rest → Rule (mutex_things n 0 x ++ []) (mutex_things n 0 (record x { queue = rest }) ++ [])
  next_rule x first rest q =
      let y : Mutex = record x { queue = rest } in
      let c = content_things x.number x.content in
      let head : (f : Thing → ℕ) → tot f (queue_of x) ≡ f (queued x.number first.0 first.1) + tot f (queue_of y) = λ f. ap (λ z. tot f (things_at (queue_things x.number) 0 z)) q ∙ omega (arith, Rattle.law_counts_sums.proofs.Trades.tot-front (λ z. queued x.number z.0 z.1 ∷ []) f 0 first rest) in
      padded (in_turn (turned (mutex_things n 0 x) (at_home n x ∷ queued x.number first.0 first.1 ∷ (c ++ queue_of y)) (λ f. omega (arith, head f, tot-append f c (queue_of x), tot-append f c (queue_of y))))
      (in_turn (beside (turns_mutex n x y refl refl) (beside (dequeues x.number first.0 first.1) (same (c ++ queue_of y))))
      (turned (mutex_things n 0 y) (mutex_things n 0 y ++ []) (λ f. omega (arith, tot-append f (mutex_things n 0 y) [])))))

  comes_back : (others : List Thing) (m : MutexNo) (v : Owned) (w : Work) → WorkOk K n e (holds in_hand v ∷ others) w → Gives (λ a. WorkOk K n e (back_things a.1 ++ others) (with_mutexes a.0 w)) (give_back w.rest.mutexes m v)
  comes_back others m v w g = by (mutex_in w.rest.mutexes.there m) refl
    where
      BackOk : Mutexes × Back → Type 0
      BackOk a = WorkOk K n e (back_things a.1 ++ others) (with_mutexes a.0 w)

      alone : (x : Mutex) → mutex_in w.rest.mutexes.there m ≡ Some x → x.content ≡ None → x.queue ≡ [] → (b : Bool) → (x.shares == 0) ≡ b
          → BackOk (if b then (end_mutex w.rest.mutexes x.number, back.Ended v) else (put_mutex w.rest.mutexes (record x { content = Some v }), back.Kept))
      alone x q c z true d =
          ends_mutex w m x q (trade_none (holds in_hand v ∷ others)) (padded (in_turn (turned (mutex_things n 0 x) (at_home n x ∷ []) (none_left x c z)) (closes n x (eqb-true x.shares 0 d)))) g
      alone x q c z false d = puts w m x (record x { content = Some v }) q refl (one_goes (holds in_hand v) others) (keeps_inside x v c z) g

      queue : (x : Mutex) → mutex_in w.rest.mutexes.there m ≡ Some x → x.content ≡ None → (l : List (ℕ × ℕ)) → x.queue ≡ l
          → WorkOk K n e (back_things (back_to w.rest.mutexes v x l).1 ++ others) (with_mutexes (back_to w.rest.mutexes v x l).0 w)
      queue x q c [] z = alone x q c z (x.shares == 0) refl
      queue x q c (first ∷ rest) z = puts w m x (record x { queue = rest }) q refl (trade_none (holds in_hand v ∷ others)) (next_rule x first rest z) g

      content : (x : Mutex) → mutex_in w.rest.mutexes.there m ≡ Some x → (c : Option Owned) → x.content ≡ c → Gives (λ a. WorkOk K n e (back_things a.1 ++ others) (with_mutexes a.0 w)) (back_out w.rest.mutexes v x c)
      content x q None z = queue x q z x.queue refl
      content x q (Some u) z = tt

      by : (o : Option Mutex) → mutex_in w.rest.mutexes.there m ≡ o → Gives (λ a. WorkOk K n e (back_things a.1 ++ others) (with_mutexes a.0 w)) (Rattle.coherent_memory.specs.Below.mutex_home.Mutexes.back_in w.rest.mutexes v o)
      by None q = tt
      by (Some x) q = content x q x.content refl

  backs : (others : List Thing) (m : MutexNo) (b : Back) (w : Work) → WorkOk K n e (back_things b ++ others) w → WorkOk K n e others (answer_back m b w)
  backs others m (back.Next s t v) w g = grants others m s t v w g
  backs others m (back.Ended v) w g = gives_up k n e others v w g
  backs others m back.Kept w g = g

  pub unlocks_deliver : (others : List Thing) (m : MutexNo) (v : Owned) (w : Work) → WorkOk K n e (holds in_hand v ∷ others) w → Gives (WorkOk K n e others) (deliver_unlock m v w)
  unlocks_deliver others m v w g =
      over_gives (λ a. WorkOk K n e (back_things a.1 ++ others) (with_mutexes a.0 w)) (WorkOk K n e others) (give_back w.rest.mutexes m v) _ (comes_back others m v w g) (λ a u. backs others m a.1 (with_mutexes a.0 w) u)

  -- SHARES

  share_rule : (x : Mutex) (r t : ℕ) → Rule (mutex_things n 0 x ++ []) (mutex_things n 0 (record x { shares = x.shares + 1 }) ++ sent r (message.Dupped x.number t) ∷ [])
  share_rule x r t =
      let y : Mutex = record x { shares = x.shares + 1 } in
      let m = sent r (message.Dupped x.number t) in
      let c = content_things x.number x.content ++ queue_of x in
      padded (in_turn (beside (dups n r t x y refl refl) (same c)) (turned (at_home n y ∷ m ∷ c) (mutex_things n 0 y ++ m ∷ []) (λ f. omega (arith, tot-append f c (m ∷ [])))))

  pub dups_deliver : (others : List Thing) (m : MutexNo) (r t : ℕ) (w : Work) → WorkOk K n e others w → Gives (WorkOk K n e others) (deliver_dup m r t w)
  dups_deliver others m r t w g =
      over_gives (λ ms. WorkOk K n e (sent r (message.Dupped m t) ∷ others) (with_mutexes ms w)) (WorkOk K n e others) (more w.rest.mutexes m) _ (by (mutex_in w.rest.mutexes.there m) refl)
      (λ ms u. work_sends k n e (sent r (message.Dupped m t) ∷ others) (note (act.Dupped m t r) (with_mutexes ms w)) r (message.Dupped m t) (one_goes (sent r (message.Dupped m t)) others) (same (sent r (message.Dupped m t) ∷ [])) (record { number = u.number; bag = u.bag }))
    where
      by : (o : Option Mutex) → mutex_in w.rest.mutexes.there m ≡ o → Gives (λ ms. WorkOk K n e (sent r (message.Dupped m t) ∷ others) (with_mutexes ms w)) (Rattle.coherent_memory.specs.Below.mutex_home.Mutexes.more_in w.rest.mutexes o)
      by None q = tt
      by (Some x) q =
          test_gives (λ ms. WorkOk K n e (sent r (message.Dupped m t) ∷ others) (with_mutexes ms w)) (nat_lt 0 x.shares && nat_lt x.shares (2 ^ 64 - 1)) _ (λ on.
          subst (λ z. WorkOk K n e (sent r (message.Dupped z t) ∷ others) (with_mutexes (put_mutex w.rest.mutexes (record x { shares = x.shares + 1 })) w)) (found_number w.rest.mutexes.there m x q)
          (puts w m x (record x { shares = x.shares + 1 }) q refl (some_come (sent r (message.Dupped x.number t) ∷ []) others) (share_rule x r t) g))

  -- a share less, with its `release`
  less_rule : (x y : Mutex) → y.number ≡ x.number → x.shares ≡ y.shares + 1 → y.content ≡ x.content → y.queue ≡ x.queue → Rule (mutex_things n 0 x ++ sent n (message.Release (released.Mutex x.number)) ∷ []) (mutex_things n 0 y ++ [])
  less_rule x y named less c q =
      let m = sent n (message.Release (released.Mutex x.number)) in
      let rest = content_things x.number x.content ++ queue_of x in
      let there : (f : Thing → ℕ) → tot f (mutex_things n 0 y) ≡ f (at_home n y) + tot f rest =
      λ f. ap (λ z. f (at_home n y) + tot f (content_things z y.content ++ things_at (queue_things z) 0 y.queue)) named ∙ (ap (λ z. f (at_home n y) + tot f (content_things x.number z ++ things_at (queue_things x.number) 0 y.queue)) c ∙ ap (λ z. f (at_home n y) + tot f (content_things x.number x.content ++ things_at (queue_things x.number) 0 z)) q) in
      in_turn (turned (mutex_things n 0 x ++ m ∷ []) (m ∷ at_home n x ∷ rest) (λ f. omega (arith, tot-append f rest (m ∷ []))))
      (in_turn (beside (less_share n n x y named less) (same rest)) (turned (at_home n y ∷ rest) (mutex_things n 0 y ++ []) (λ f. omega (arith, there f, tot-append f (mutex_things n 0 y) []))))

  drained : (m : MutexNo) (i : ℕ) (q : List (ℕ × ℕ)) → Rule (things_at (queue_things m) i q) []
  drained m i [] = none
  drained m i (a ∷ q) = beside (dequeues m a.0 a.1) (drained m (i + 1) q)

  -- the last share, with its `release`; the content comes to the hand
  last_rule : (x : Mutex) (v : Owned) → x.shares ≡ 1 → x.content ≡ Some v → Rule (mutex_things n 0 x ++ sent n (message.Release (released.Mutex x.number)) ∷ []) (holds in_hand v ∷ [])
  last_rule x v once q =
      let m = sent n (message.Release (released.Mutex x.number)) in
      let y : Mutex = record x { shares = 0 } in
      let there : (f : Thing → ℕ) → tot f (content_things x.number x.content) ≡ f (holds (as_content x.number) v) = λ f. ap (λ z. tot f (content_things x.number z)) q ∙ omega arith in
      in_turn (turned (mutex_things n 0 x ++ m ∷ []) ((m ∷ at_home n x ∷ []) ++ (holds (as_content x.number) v ∷ queue_of x)) (λ f. omega (arith, there f, tot-append f (mutex_things n 0 x) (m ∷ []), tot-append f (content_things x.number x.content) (queue_of x))))
      (beside (in_turn (less_share n n x y refl once) (closes n y refl)) (padded_news (beside (hands_on (as_content x.number) in_hand v) (drained x.number 0 x.queue))))

  -- what is left over is in the hand
  abbrev pub left_things : Option Owned → List Thing
  left_things None = []
  left_things (Some v) = holds in_hand v ∷ []

  pub gives_up_left : (others : List Thing) (o : Option Owned) (w : Work) → WorkOk K n e (left_things o ++ others) w → WorkOk K n e others (give_up_left o w)
  gives_up_left others None w g = g
  gives_up_left others (Some v) w g = gives_up k n e others v w g

  releases : (others : List Thing) (m : MutexNo) (w : Work) → WorkOk K n e (sent n (message.Release (released.Mutex m)) ∷ others) w → Gives (λ a. WorkOk K n e (left_things a.1 ++ others) (with_mutexes a.0 w)) (less w.rest.mutexes m)
  releases others m w g = by (mutex_in w.rest.mutexes.there m) refl
    where
      here : (x : Mutex) → mutex_in w.rest.mutexes.there m ≡ Some x → WorkOk K n e (sent n (message.Release (released.Mutex x.number)) ∷ others) w
      here x q = subst (λ z. WorkOk K n e (sent n (message.Release (released.Mutex z)) ∷ others) w) (sym (found_number w.rest.mutexes.there m x q)) g

      gone : (x : Mutex) → Trade (sent n (message.Release (released.Mutex x.number)) ∷ others) (sent n (message.Release (released.Mutex x.number)) ∷ []) [] others
      gone x = one_goes (sent n (message.Release (released.Mutex x.number))) others

      content : (x : Mutex) → mutex_in w.rest.mutexes.there m ≡ Some x → x.shares ≡ 1 → (c : Option Owned) → x.content ≡ c
          → WorkOk K n e (left_things (last_less w.rest.mutexes x c).1 ++ others) (with_mutexes (last_less w.rest.mutexes x c).0 w)
      content x q once None z = puts w m x (record x { shares = 0 }) q refl (gone x) (less_rule x (record x { shares = 0 }) refl once refl refl) (here x q)
      content x q once (Some v) z =
          ends_mutex w m x q (record { rest = others; before = λ f. omega arith; after = λ f. omega arith }) (last_rule x v once z) (here x q)

      shares : (x : Mutex) → mutex_in w.rest.mutexes.there m ≡ Some x → nat_lt 0 x.shares ≡ true → (b : Bool) → (x.shares == 1) ≡ b
          → WorkOk K n e (left_things (if b then last_less w.rest.mutexes x x.content else (put_mutex w.rest.mutexes (record x { shares = x.shares - 1 }), None)).1 ++ others)
          (with_mutexes (if b then last_less w.rest.mutexes x x.content else (put_mutex w.rest.mutexes (record x { shares = x.shares - 1 }), None)).0 w)
      shares x q on true d = content x q (eqb-true x.shares 1 d) x.content refl
      shares x q on false d =
          let some : 0 < x.shares = grind (arith, nat_tests, on) in
          let one_less : x.shares ≡ (x.shares - 1) + 1 = omega (arith, some) in
          puts w m x (record x { shares = x.shares - 1 }) q refl (gone x) (less_rule x (record x { shares = x.shares - 1 }) refl one_less refl refl) (here x q)

      by : (o : Option Mutex) → mutex_in w.rest.mutexes.there m ≡ o → Gives (λ a. WorkOk K n e (left_things a.1 ++ others) (with_mutexes a.0 w)) (Rattle.coherent_memory.specs.Below.mutex_home.Mutexes.less_in w.rest.mutexes o)
      by None q = tt
      by (Some x) q = test_gives (λ a. WorkOk K n e (left_things a.1 ++ others) (with_mutexes a.0 w)) (nat_lt 0 x.shares) (Some (less_of w.rest.mutexes x)) (λ on. shares x q on (x.shares == 1) refl)

  pub releases_deliver : (others : List Thing) (m : MutexNo) (w : Work) → WorkOk K n e (sent n (message.Release (released.Mutex m)) ∷ others) w → Gives (WorkOk K n e others) (release_mutex m w)
  releases_deliver others m w g =
      over_gives (λ a. WorkOk K n e (left_things a.1 ++ others) (with_mutexes a.0 w)) (WorkOk K n e others) (less w.rest.mutexes m) _ (releases others m w g) (λ a u. gives_up_left others a.1 (with_mutexes a.0 w) u)
