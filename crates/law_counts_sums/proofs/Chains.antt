-- What is kept in the middle of an event, whatever it is: by a trade of the rest of the server, of the thread in the hand and of what there is beside.
use Rattle.std.proofs.Common.{◌≡◌, ℕ, true, false, List, [], ◌∷◌, ◌++◌, Option, Some, None, refl, sym, subst, ◌∙◌, arith}
use Rattle.std.specs.Prelude.{option_map}
use Rattle.coherent_memory.specs.Below.thread_state.View.{ThreadState}
use Rattle.coherent_memory.specs.Below.thread_state.declared.phase.Phase.{Phase}
use Rattle.coherent_memory.specs.Below.server_msgs.declared.message.Message.{Message}
use Rattle.coherent_memory.specs.Below.server_model.Work.{Work, Hand, Site, send, working, put_back, at_thread, beside_threads, thread_in, without_thread, set_thread, with_phase, then_some}
use Rattle.coherent_memory.specs.Things.{Thing, sent, thread_things, message_things}
use Rattle.law_counts_sums.specs.Laws.{Gives}
use Rattle.law_counts_sums.proofs.Trades.{Trade, Same, tot-append, trade_none, trade_left, trade_right, trade_both}
use Rattle.law_counts_sums.proofs.Rules.{Rule, changes, sends, is_plain, Kept}
use Rattle.law_counts_sums.proofs.Bags.{WorkOk, HandOk, SiteOk, rest_things, all_standing, had_by, of_thread, of_sending, sent_number, tot-without, tot-set, thread_number}
use Rattle.law_counts_sums.proofs.Results.{over_gives}

module _ {K : List Thing → Type 0} (k : Kept K) (n e : ℕ) where
  -- the rest and what is beside it trade
  pub work_trades : {others others2 : List Thing} (w w2 : Work) {o1 n1 o2 n2 : List Thing} → w2.rest.number ≡ w.rest.number → Trade (rest_things n e w.rest) o1 n1 (rest_things n e w2.rest) → Trade others o2 n2 others2
      → Rule (o1 ++ o2) (n1 ++ n2) → WorkOk K n e others w → WorkOk K n e others2 w2
  work_trades w w2 same t u r g = record { number = same ∙ g.number; bag = k.trades (trade_both t u) r g.bag }

  -- the rest alone
  pub rest_trades : (others : List Thing) (w w2 : Work) {olds news : List Thing} → w2.rest.number ≡ w.rest.number → Trade (rest_things n e w.rest) olds news (rest_things n e w2.rest) → Rule olds news → WorkOk K n e others w → WorkOk K n e others w2
  rest_trades others w w2 same t r g = record { number = same ∙ g.number; bag = k.trades (trade_right others t) r g.bag }

  pub work_sends : (others : List Thing) (w : Work) (target : ℕ) (m : Message) {olds : List Thing} {others2 : List Thing} → Trade others olds [] others2 → Rule olds (message_things target m) → WorkOk K n e others w → WorkOk K n e others2 (send target m w)
  work_sends others w target m t r g =
      record { number = sent_number w.rest target m ∙ g.number; bag = k.trades (swapped (of_sending n e w.rest g.number target m) t) r g.bag }
    where
      swapped : {a b c d olds news : List Thing} → Trade a [] news b → Trade c olds [] d → Trade (a ++ c) olds news (b ++ d)
      swapped {a = a} {b = b} {c = c} {d = d} x y = record {
        rest = x.rest ++ y.rest;
        before = λ f. omega (arith, x.before f, y.before f, tot-append f a c, tot-append f x.rest y.rest);
        after = λ f. omega (arith, x.after f, y.after f, tot-append f b d, tot-append f x.rest y.rest);
      }

  -- one of the things beside stands first
  pub work_front : (b others : List Thing) (x : Thing) (w : Work) → WorkOk K n e (b ++ (x ∷ others)) w → WorkOk K n e (x ∷ (b ++ others)) w
  work_front b others x w g = record {
    number = g.number;
    bag = k.same _ _ (λ f. omega (arith, tot-append f (rest_things n e w.rest) (b ++ (x ∷ others)), tot-append f (rest_things n e w.rest) (x ∷ (b ++ others)), tot-append f b (x ∷ others), tot-append f b others)) g.bag;
  }

  module _ (t : ℕ) where
    pub hand_front : (b others : List Thing) (x : Thing) (h : Hand) → HandOk K n e t (b ++ (x ∷ others)) h → HandOk K n e t (x ∷ (b ++ others)) h
    hand_front b others x h g = record {
      number = g.number;
      thread = g.thread;
      bag = k.same _ _ (λ f.
          let a = thread_things n false h.thread in
          let r = rest_things n e h.work.rest in
          omega (arith, tot-append f a (r ++ (b ++ (x ∷ others))), tot-append f a (r ++ (x ∷ (b ++ others))), tot-append f r (b ++ (x ∷ others)), tot-append f r (x ∷ (b ++ others)), tot-append f b (x ∷ others), tot-append f b others)) g.bag;
    }

    -- the thread, the rest and what is beside trade
    pub hand_trades : {others others2 : List Thing} (h h2 : Hand) {o1 n1 o2 n2 o3 n3 : List Thing} → h2.work.rest.number ≡ h.work.rest.number → h2.thread.number ≡ h.thread.number
        → Trade (thread_things n false h.thread) o1 n1 (thread_things n false h2.thread) → Trade (rest_things n e h.work.rest) o2 n2 (rest_things n e h2.work.rest) → Trade others o3 n3 others2
        → Rule (o1 ++ (o2 ++ o3)) (n1 ++ (n2 ++ n3)) → HandOk K n e t others h → HandOk K n e t others2 h2
    hand_trades h h2 same named a b c r g = record { number = same ∙ g.number; thread = named ∙ g.thread; bag = k.trades (trade_both a (trade_both b c)) r g.bag }

    -- the work is that of a server whose thread is beside
    pub beside_hand : (others : List Thing) (h : Hand) → HandOk K n e t others h → WorkOk K n e (thread_things n false h.thread ++ others) h.work
    beside_hand others h g = record {
      number = g.number;
      bag = k.same _ _ (λ f. omega (arith, tot-append f (thread_things n false h.thread) (rest_things n e h.work.rest ++ others), tot-append f (rest_things n e h.work.rest) others, tot-append f (rest_things n e h.work.rest) (thread_things n false h.thread ++ others), tot-append f (thread_things n false h.thread) others)) g.bag;
    }

    -- and the thread comes back to the hand
    pub to_hand : (others : List Thing) (w : Work) (x : ThreadState) → x.number ≡ t → WorkOk K n e (thread_things n false x ++ others) w → HandOk K n e t others (record { work = w; thread = x })
    to_hand others w x named g = record {
      number = g.number;
      thread = named;
      bag = k.same _ _ (λ f. omega (arith, tot-append f (thread_things n false x) (rest_things n e w.rest ++ others), tot-append f (rest_things n e w.rest) others, tot-append f (rest_things n e w.rest) (thread_things n false x ++ others), tot-append f (thread_things n false x) others)) g.bag;
    }

    -- the thread changes, and not what it has
    pub thread_changes : (others : List Thing) (h : Hand) (t2 : ThreadState) → t2.number ≡ h.thread.number → Same (had_by n h.thread) (had_by n t2) → HandOk K n e t others h → HandOk K n e t others (record h { thread = t2 })
    thread_changes others h t2 named same g =
        let stays : Trade (had_by n h.thread) [] [] (had_by n t2) = record { rest = had_by n h.thread; before = λ f. omega arith; after = λ f. omega (arith, sym (same f)) } in
        hand_trades h (record h { thread = t2 }) refl named (of_thread n h.thread t2 stays)
        (trade_none (rest_things n e h.work.rest)) (trade_none others) (changes n false h.thread t2 named) g

    pub phase_changes : (others : List Thing) (p : Phase) (h : Hand) → HandOk K n e t others h → HandOk K n e t others (with_phase p h)
    phase_changes others p h g = thread_changes others h (record h.thread { phase = p }) refl (λ f. refl) g

    -- a message that owns nothing
    pub hand_sends : (others : List Thing) (target : ℕ) (m : Message) (h : Hand) → message_things target m ≡ sent target m ∷ [] → is_plain m ≡ true → HandOk K n e t others h → HandOk K n e t others (working (send target m) h)
    hand_sends others target m h alone plain g =
        to_hand others (send target m h.work) h.thread g.thread
        (work_sends (thread_things n false h.thread ++ others) h.work target m (trade_none (thread_things n false h.thread ++ others)) (subst (λ l. Rule [] l) (sym alone) (sends target m plain)) (beside_hand others h g))

  -- THREADS OF A SITE

  -- what is beside a site trades by itself
  pub site_trades : (others others2 : List Thing) (x : Site) {olds news : List Thing} → Trade others olds news others2 → Rule olds news → SiteOk K n e others x → SiteOk K n e others2 x
  site_trades others others2 x u r g = record { number = g.number; bag = k.trades (trade_left (all_standing n x.threads) (trade_left (rest_things n e x.work.rest) u)) r g.bag }

  -- a thread comes into the hand
  pub takes : (others : List Thing) (t : ℕ) (x : Site) (y : ThreadState) → thread_in x.threads t ≡ Some y → SiteOk K n e others x → HandOk K n e t (all_standing n (without_thread x.threads t) ++ others) (record { work = x.work; thread = y })
  takes others t x y q g = record {
    number = g.number;
    thread = thread_number x.threads t y q;
    bag = k.same _ _ (λ f.
        let b = all_standing n (without_thread x.threads t) in
        omega (
          arith,
          tot-without n f x.threads t y q,
          tot-append f (thread_things n false y) (rest_things n e x.work.rest ++ (b ++ others)),
          tot-append f (rest_things n e x.work.rest) (b ++ others),
          tot-append f b others,
          tot-append f (all_standing n x.threads) (rest_things n e x.work.rest ++ others),
          tot-append f (rest_things n e x.work.rest) others,
        )) g.bag;
  }

  -- it is put where it stood
  pub puts_back : (others : List Thing) (t : ℕ) (xs : List ThreadState) (y : ThreadState) → thread_in xs t ≡ Some y → (h : Hand) → HandOk K n e t (all_standing n (without_thread xs t) ++ others) h → SiteOk K n e others (put_back xs h)
  puts_back others t xs y q h u = record {
    number = u.number;
    bag = k.same _ _ (λ f.
        let b = all_standing n (without_thread xs t) in
        omega (
          arith,
          tot-set n f xs t y h.thread q u.thread,
          tot-append f (thread_things n false h.thread) (rest_things n e h.work.rest ++ (b ++ others)),
          tot-append f (rest_things n e h.work.rest) (b ++ others),
          tot-append f b others,
          tot-append f (all_standing n (set_thread xs h.thread)) (rest_things n e h.work.rest ++ others),
          tot-append f (rest_things n e h.work.rest) others,
        )) u.bag;
  }

  pub at_thread_keeps : (others others2 : List Thing) (t : ℕ) (f : Hand → Option Hand) (x : Site)
      → ((h : Hand) → (b : List Thing) → HandOk K n e t (b ++ others) h → Gives (HandOk K n e t (b ++ others2)) (f h)) → SiteOk K n e others x → Gives (SiteOk K n e others2) (at_thread t f x)
  at_thread_keeps others others2 t f x go g = by (thread_in x.threads t) refl
    where
      by : (o : Option ThreadState) → thread_in x.threads t ≡ o → Gives (SiteOk K n e others2) (then_some (option_map (λ y. record { work = x.work; thread = y }) o) (λ h. option_map (put_back x.threads) (f h)))
      by None q = tt
      by (Some y) q =
          let b = all_standing n (without_thread x.threads t) in
          over_gives (HandOk K n e t (b ++ others2)) (SiteOk K n e others2) (f (record { work = x.work; thread = y })) (put_back x.threads)
          (go (record { work = x.work; thread = y }) b (takes others t x y q g)) (λ h u. puts_back others2 t x.threads y q h u)

  pub beside_keeps : (others others2 : List Thing) (f : Work → Option Work) (x : Site)
      → ((w : Work) → (b : List Thing) → WorkOk K n e (b ++ others) w → Gives (WorkOk K n e (b ++ others2)) (f w)) → SiteOk K n e others x → Gives (SiteOk K n e others2) (beside_threads f x)
  beside_keeps others others2 f x go g =
      let b = all_standing n x.threads in
      over_gives (WorkOk K n e (b ++ others2)) (SiteOk K n e others2) (f x.work) (λ w. record x { work = w })
      (go x.work b (record {
        number = g.number;
        bag = k.same _ _ (λ f. omega (arith, tot-append f b (rest_things n e x.work.rest ++ others), tot-append f (rest_things n e x.work.rest) others, tot-append f (rest_things n e x.work.rest) (b ++ others), tot-append f b others)) g.bag;
      }))
      (λ w u. record {
        number = u.number;
        bag = k.same _ _ (λ f. omega (arith, tot-append f b (rest_things n e w.rest ++ others2), tot-append f (rest_things n e w.rest) others2, tot-append f (rest_things n e w.rest) (b ++ others2), tot-append f b others2)) u.bag;
      })
