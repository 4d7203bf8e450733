-- Handing over all messages: the first one that is left goes to its server, and the others then.
use Rattle.std.proofs.Common.{◌≡◌, ℕ, zero, suc, ◌+◌, ◌<◌, ◌≤◌, ◌==◌, Bool, true, false, if◌then◌else◌, List, [], ◌∷◌, ◌++◌, length, Some, None, refl, sym, ap, subst, ◌∙◌, arith}
use Rattle.std.specs.Prelude.{slice_get, slice_set, IfSome}
use Rattle.fr_typing.proofs.PlaceLemmas.{eq_cases}
use Rattle.server_msgs.specs.declared.message.Message.{Message}
use Rattle.server_model.specs.Servers.{Server, Sent}
use Rattle.server_model.specs.Clusters.{accept, accept_at, accept_all, emptied, outboxes, with_outbox}
use Rattle.server_model.specs.Laws.{messages_to}
use Rattle.server_core.specs.Servers.{ServerView}
use Rattle.cluster_core.specs.Views.{states, events_in, AreNumbered}
use Rattle.cluster_core.specs.Rooms.{HaveRoomFor}
use Rattle.server_core.specs.Outboxes.{taken_from, taken_out}
use Rattle.cluster_core.specs.Rows.{Changes, Accepts, IsSameRun}
use Rattle.cluster_core.specs.Handing.{handed, AreEmpty}
use Rattle.cluster_core.proofs.RowLemmas.{KeepsRun, states_at, states_set, run_set, same_run, accepts_keep, accepted, then_same, accepting_does_nothing}

-- WHAT A MESSAGE LEAVES

outboxes_accept : (ss : List Server) (x : Sent) → outboxes (accept_at ss x) ≡ outboxes ss
outboxes_accept [] x = refl
outboxes_accept (s ∷ ss) x = by (s.rest.number == x.target) (outboxes_accept ss x)
  where
    by : (b : Bool) → outboxes (accept_at ss x) ≡ outboxes ss → outboxes (if b then accept x.message s ∷ ss else s ∷ accept_at ss x) ≡ s.rest.outbox ++ outboxes ss
    by true e = refl
    by false e = ap (λ l. s.rest.outbox ++ l) e

emptied_accept : (ss : List Server) (x : Sent) → emptied (accept_at ss x) ≡ accept_at (emptied ss) x
emptied_accept [] x = refl
emptied_accept (s ∷ ss) x = by (s.rest.number == x.target) (emptied_accept ss x)
  where
    by : (b : Bool) → emptied (accept_at ss x) ≡ accept_at (emptied ss) x
        → emptied (if b then accept x.message s ∷ ss else s ∷ accept_at ss x) ≡ (if b then accept x.message (with_outbox [] s) ∷ emptied ss else with_outbox [] s ∷ accept_at (emptied ss) x)
    by true e = refl
    by false e = ap (λ l. with_outbox [] s ∷ l) e

pub empty_accept : (n : ℕ) (ss : List Server) (x : Sent) → AreEmpty n ss → AreEmpty n (accept_at ss x)
empty_accept zero ss x a = tt
empty_accept (suc n) [] x a = tt
empty_accept (suc n) (s ∷ ss) x a = by (s.rest.number == x.target) (empty_accept n ss x a.1)
  where
    by : (b : Bool) → AreEmpty n (accept_at ss x) → AreEmpty (suc n) (if b then accept x.message s ∷ ss else s ∷ accept_at ss x)
    by true e = (a.0, a.1)
    by false e = (a.0, e)

-- ONE SERVER'S FIRST MESSAGE

outboxes_set : (n : ℕ) (ss : List Server) (s : Server) (x : Sent) (xs : List Sent) → AreEmpty n ss → slice_get ss n ≡ Some s → s.rest.outbox ≡ x ∷ xs → outboxes ss ≡ x ∷ outboxes (slice_set ss n (with_outbox xs s))
outboxes_set n [] s x xs a e o = absurd (cc e)
outboxes_set zero (y ∷ ss) s x xs a e o = let same : y ≡ s = cc in ap (λ (z : Server). z.rest.outbox ++ outboxes ss) same ∙ ap (λ l. l ++ outboxes ss) o
outboxes_set (suc n) (y ∷ ss) s x xs a e o =
    ap (λ l. l ++ outboxes ss) a.0 ∙ outboxes_set n ss s x xs a.1 e o ∙ ap (λ l. x ∷ l ++ outboxes (slice_set ss n (with_outbox xs s))) (sym a.0)

emptied_set : (n : ℕ) (ss : List Server) (s : Server) (xs : List Sent) → slice_get ss n ≡ Some s → emptied (slice_set ss n (with_outbox xs s)) ≡ emptied ss
emptied_set n [] s xs e = absurd (cc e)
emptied_set zero (y ∷ ss) s xs e = let same : s ≡ y = cc in ap (λ z. with_outbox [] z ∷ emptied ss) same
emptied_set (suc n) (y ∷ ss) s xs e = ap (λ l. with_outbox [] y ∷ l) (emptied_set n ss s xs e)

pub empty_set : (n : ℕ) (ss : List Server) (new : Server) → AreEmpty n ss → AreEmpty n (slice_set ss n new)
empty_set n [] new a = a
empty_set zero (y ∷ ss) new a = tt
empty_set (suc n) (y ∷ ss) new a = (a.0, empty_set n ss new a.1)

-- the first message goes to its server, and handing over the others gives the same
pub first_handed : (n : ℕ) (ss : List Server) (s : Server) (x : Sent) (xs : List Sent) → AreEmpty n ss → slice_get ss n ≡ Some s → s.rest.outbox ≡ x ∷ xs → handed (accept_at (slice_set ss n (with_outbox xs s)) x) ≡ handed ss
first_handed n ss s x xs a e o =
    let after = slice_set ss n (with_outbox xs s) in
    ap (accept_all (emptied (accept_at after x))) (outboxes_accept after x)
    ∙ ap (λ l. accept_all l (outboxes after)) (emptied_accept after x ∙ ap (λ l. accept_at l x) (emptied_set n ss s xs e))
    ∙ ap (accept_all (emptied ss)) (sym (outboxes_set n ss s x xs a e o))

-- what is left to hand over then
pub left_over : (n : ℕ) (ss : List Server) (s : Server) (x : Sent) (xs : List Sent) → AreEmpty n ss → slice_get ss n ≡ Some s → s.rest.outbox ≡ x ∷ xs → x ∷ outboxes (accept_at (slice_set ss n (with_outbox xs s)) x) ≡ outboxes ss
left_over n ss s x xs a e o = ap (λ l. x ∷ l) (outboxes_accept (slice_set ss n (with_outbox xs s)) x) ∙ sym (outboxes_set n ss s x xs a e o)

next_empty : (n : ℕ) (ss : List Server) (s : Server) → AreEmpty n ss → slice_get ss n ≡ Some s → s.rest.outbox ≡ [] → AreEmpty (suc n) ss
next_empty n [] s a e o = absurd (cc e)
next_empty zero (y ∷ ss) s a e o = let same : y ≡ s = cc in (ap (λ (z : Server). z.rest.outbox) same ∙ o, tt)
next_empty (suc n) (y ∷ ss) s a e o = (a.0, next_empty n ss s a.1 e o)

pub one_more_empty : (n : ℕ) (ss : List Server) (s : Server) → AreEmpty n ss → slice_get ss n ≡ Some s → s.rest.outbox ≡ [] → AreEmpty (n + 1) ss
one_more_empty n ss s a e o = let m : suc n ≡ n + 1 = omega arith in subst (λ j. AreEmpty j ss) m (next_empty n ss s a e o)

pub enough_empty : (n : ℕ) (ss : List Server) → length ss ≤ n → AreEmpty n ss → AreEmpty (length ss) ss
enough_empty n [] l a = tt
enough_empty zero (s ∷ ss) l a = absurd (omega (arith, l))
enough_empty (suc n) (s ∷ ss) l a = (a.0, enough_empty n ss (omega (arith, l)) a.1)

-- nothing is left
pub all_handed : (ss : List Server) → AreEmpty (length ss) ss → handed ss ≡ ss
all_handed ss a = ap (accept_all (emptied ss)) (none ss a) ∙ whole ss a
  where
    none : (ss : List Server) → AreEmpty (length ss) ss → outboxes ss ≡ []
    none [] a = refl
    none (s ∷ ss) a = ap (λ l. l ++ outboxes ss) a.0 ∙ none ss a.1

    whole : (ss : List Server) → AreEmpty (length ss) ss → emptied ss ≡ ss
    whole [] a = refl
    whole (s ∷ ss) a = ap (λ l. with_outbox l s ∷ emptied ss) (sym a.0) ∙ ap (λ l. s ∷ l) (whole ss a.1)

-- ROOM

pub room_for_first : (n t : ℕ) (m : Message) (xs : List Sent) (vs : List ServerView) → AreNumbered n (states vs) → HaveRoomFor (record { target = n + t; message = m } ∷ xs) vs → IfSome (slice_get vs t) (λ v. 0 < v.inbox_room)
room_for_first n t m xs [] a h = tt
room_for_first n zero m xs (v ∷ vs) a h =
    let one : length (messages_to v.state.rest.number (record { target = n + zero; message = m } ∷ xs)) ≡ suc (length (messages_to v.state.rest.number xs)) =
    eq_cases (λ b. length (if b then m ∷ messages_to v.state.rest.number xs else messages_to v.state.rest.number xs) ≡ suc (length (messages_to v.state.rest.number xs))) (n + zero) v.state.rest.number (λ e. refl)
    (λ ne. absurd (ne (omega (arith, a.0)))) in
    omega (arith, one, h.0)
room_for_first n (suc t) m xs (v ∷ vs) a h = room_for_first (n + 1) t m xs vs a.1 (subst (λ j. HaveRoomFor (record { target = j; message = m } ∷ xs) vs) (omega arith) h.1)

fewer_to : (n : ℕ) (x : Sent) (xs : List Sent) → length (messages_to n xs) ≤ length (messages_to n (x ∷ xs))
fewer_to n x xs = by (x.target == n)
  where
    by : (b : Bool) → length (messages_to n xs) ≤ length (if b then x.message ∷ messages_to n xs else messages_to n xs)
    by true = omega arith
    by false = omega arith

room_for_fewer : (x : Sent) (xs : List Sent) (vs : List ServerView) → HaveRoomFor (x ∷ xs) vs → HaveRoomFor xs vs
room_for_fewer x xs [] h = tt
room_for_fewer x xs (v ∷ vs) h = (omega (arith, h.0, fewer_to v.state.rest.number x xs), room_for_fewer x xs vs h.1)

pub room_for_others : (n t : ℕ) (m : Message) (xs : List Sent) (vs ws : List ServerView) → AreNumbered n (states vs) → HaveRoomFor (record { target = n + t; message = m } ∷ xs) vs → Changes (Accepts m) t vs ws → HaveRoomFor xs ws
room_for_others n t m xs [] ws a h g = subst (HaveRoomFor xs) (sym g) tt
room_for_others n t m xs (v ∷ vs) [] a h g = absurd g
room_for_others n zero m xs (v ∷ vs) (w ∷ ws) a h g =
    let k = g.0 in
    let number : w.state.rest.number ≡ v.state.rest.number = ap (λ (s : Server). s.rest.number) k.state in
    let one : length (messages_to v.state.rest.number (record { target = n + zero; message = m } ∷ xs)) ≡ suc (length (messages_to v.state.rest.number xs)) =
    eq_cases (λ b. length (if b then m ∷ messages_to v.state.rest.number xs else messages_to v.state.rest.number xs) ≡ suc (length (messages_to v.state.rest.number xs))) (n + zero) v.state.rest.number (λ e. refl)
    (λ ne. absurd (ne (omega (arith, a.0)))) in
    (subst (λ j. length (messages_to j xs) ≤ w.inbox_room) (sym number) (omega (arith, one, h.0, k.room)), subst (HaveRoomFor xs) (sym g.1) (room_for_fewer (record { target = n + zero; message = m }) xs vs h.1))
room_for_others n (suc t) m xs (v ∷ vs) (w ∷ ws) a h g = (
  subst (λ (x : ServerView). length (messages_to x.state.rest.number xs) ≤ x.inbox_room) (sym g.0) (omega (arith, h.0, fewer_to v.state.rest.number (record { target = n + suc t; message = m }) xs)),
  room_for_others (n + 1) t m xs vs ws a.1 (subst (λ j. HaveRoomFor (record { target = j; message = m } ∷ xs) vs) (omega arith) h.1) g.1,
)

pub room_for_set : (xs : List Sent) (vs : List ServerView) (i : ℕ) (v w : ServerView) → slice_get vs i ≡ Some v → w.state.rest.number ≡ v.state.rest.number → w.inbox_room ≡ v.inbox_room → HaveRoomFor xs vs → HaveRoomFor xs (slice_set vs i w)
room_for_set xs [] i v w e f r h = tt
room_for_set xs (x ∷ vs) zero v w e f r h =
    let same : x ≡ v = cc in
    let has : length (messages_to v.state.rest.number xs) ≤ v.inbox_room = subst (λ (y : ServerView). length (messages_to y.state.rest.number xs) ≤ y.inbox_room) same h.0 in
    (subst (λ j. length (messages_to j xs) ≤ w.inbox_room) (sym f) (omega (arith, r, has)), h.1)
room_for_set xs (x ∷ vs) (suc i) v w e f r h = (h.0, room_for_set xs vs i v w e f r h.1)

-- EVENTS

pub set_does_nothing : (ss : List Server) (i : ℕ) (s new : Server) → slice_get ss i ≡ Some s → new.events ≡ s.events → events_in (slice_set ss i new) ≡ events_in ss
set_does_nothing [] i s new e h = absurd (cc e)
set_does_nothing (x ∷ ss) zero s new e h = let same : x.events ≡ s.events = let q : x ≡ s = cc in ap (λ (y : Server). y.events) q in omega (arith, same, h)
set_does_nothing (x ∷ ss) (suc i) s new e h = omega (arith, set_does_nothing ss i s new e h)

-- THE NEXT MESSAGE

-- a message was taken out of an outbox
first_taken : (s s2 : Server) (x : Sent) → taken_out s ≡ (Some x, s2) → (xs : List Sent) × (s.rest.outbox ≡ x ∷ xs) × (s2 ≡ with_outbox xs s)
first_taken s s2 x e = by s.rest.outbox refl e
  where
    by : (l : List Sent) → s.rest.outbox ≡ l → taken_from s l ≡ (Some x, s2) → (xs : List Sent) × (s.rest.outbox ≡ x ∷ xs) × (s2 ≡ with_outbox xs s)
    by [] o q = let bad : None ≡ Some x = ap (λ z. z.0) q in absurd (cc bad)
    by (y ∷ ys) o q = let first : Some y ≡ Some x = ap (λ z. z.0) q in let same : y ≡ x = cc in (ys, o ∙ ap (λ z. z ∷ ys) same, ap (λ z. z.1) (sym q))

-- none was there
pub none_taken : (s s2 : Server) → taken_out s ≡ (None, s2) → (s.rest.outbox ≡ []) × (s2 ≡ s)
none_taken s s2 e = by s.rest.outbox refl e
  where
    by : (l : List Sent) → s.rest.outbox ≡ l → taken_from s l ≡ (None, s2) → (s.rest.outbox ≡ []) × (s2 ≡ s)
    by [] o q = (o, ap (λ z. z.1) (sym q))
    by (y ∷ ys) o q = let bad : Some y ≡ None = ap (λ z. z.0) q in absurd (cc bad)

-- it was the first of all, and the servers are ready for it
pub record Next (n : ℕ) (vs us : List ServerView) (x : Sent) : Type 0 where
  pub rest : List Sent
  pub all : outboxes (states vs) ≡ x ∷ rest
  pub room : HaveRoomFor (x ∷ rest) us
  pub numbered : AreNumbered 0 (states us)
  pub run : IsSameRun vs us
  pub events : events_in (states us) ≡ events_in (states vs)
  pub same : handed (accept_at (states us) x) ≡ handed (states vs)
  pub left : outboxes (accept_at (states us) x) ≡ rest
  pub empty : AreEmpty n (accept_at (states us) x)

pub next : (n : ℕ) (vs : List ServerView) (v w : ServerView) (x : Sent) → AreNumbered 0 (states vs) → AreEmpty n (states vs) → HaveRoomFor (outboxes (states vs)) vs → slice_get vs n ≡ Some v → taken_out v.state ≡ (Some x, w.state) → w.code ≡ v.code → w.options ≡ v.options
    → w.inbox_room ≡ v.inbox_room → Next n vs (slice_set vs n w) x
next n vs v w x a e h there t c o r =
    let k = first_taken v.state w.state x t in
    let xs = k.0 in
    let out : v.state.rest.outbox ≡ x ∷ xs = k.1 in
    let new : w.state ≡ with_outbox xs v.state = k.2 in
    let ss = states vs in
    let at : slice_get ss n ≡ Some v.state = states_at vs n v there in
    let us : states (slice_set vs n w) ≡ slice_set ss n (with_outbox xs v.state) = states_set vs n w ∙ ap (slice_set ss n) new in
    let number : w.state.rest.number ≡ v.state.rest.number = ap (λ (s : Server). s.rest.number) new in
    let keeps : KeepsRun v w = record { code = c; options = o; number = number } in
    let run = run_set vs n v w there keeps in
    let after = accept_at (slice_set ss n (with_outbox xs v.state)) x in
    let whole : x ∷ outboxes after ≡ outboxes ss = left_over n ss v.state x xs e at out in record {
      rest = outboxes after;
      all = sym whole;
      room = room_for_set (x ∷ outboxes after) vs n v w there number r (subst (λ l. HaveRoomFor l vs) (sym whole) h);
      numbered = run.numbered 0 a;
      run = run;
      events = ap events_in us ∙ set_does_nothing ss n v.state (with_outbox xs v.state) at refl;
      same = ap (λ l. handed (accept_at l x)) us ∙ first_handed n ss v.state x xs e at out;
      left = ap (λ l. outboxes (accept_at l x)) us;
      empty = subst (λ l. AreEmpty n (accept_at l x)) (sym us) (empty_accept n (slice_set ss n (with_outbox xs v.state)) x (empty_set n ss (with_outbox xs v.state) e));
    }

pub room_there : (n : ℕ) (vs us : List ServerView) (t : ℕ) (m : Message) → Next n vs us (record { target = t; message = m }) → IfSome (slice_get us t) (λ v. 0 < v.inbox_room)
room_there n vs us t m k =
    let zero_more : t ≡ 0 + t = omega arith in
    room_for_first 0 t m k.rest us k.numbered (subst (λ j. HaveRoomFor (record { target = j; message = m } ∷ k.rest) us) zero_more k.room)

-- the message waits at its server
pub record Gone (n : ℕ) (vs ws : List ServerView) : Type 0 where
  pub handed_same : handed (states ws) ≡ handed (states vs)
  pub numbered : AreNumbered 0 (states ws)
  pub before : AreEmpty n (states ws)
  pub room : HaveRoomFor (outboxes (states ws)) ws
  pub run : IsSameRun vs ws
  pub events : events_in (states ws) ≡ events_in (states vs)
  pub fewer : length (outboxes (states ws)) < length (outboxes (states vs))

pub gone : (n : ℕ) (vs us ws : List ServerView) (t : ℕ) (m : Message) → Next n vs us (record { target = t; message = m }) → Changes (Accepts m) t us ws → Gone n vs ws
gone n vs us ws t m k g =
    let x : Sent = record { target = t; message = m } in
    let moved : states ws ≡ accept_at (states us) x = accepted t m us ws k.numbered g in
    let run = same_run (Accepts m) (accepts_keep m) t us ws g in
    let left : outboxes (states ws) ≡ k.rest = ap outboxes moved ∙ k.left in
    let zero_more : t ≡ 0 + t = omega arith in record {
      handed_same = ap handed moved ∙ k.same;
      numbered = run.numbered 0 k.numbered;
      before = subst (AreEmpty n) (sym moved) k.empty;
      room = subst (λ l. HaveRoomFor l ws) (sym left) (room_for_others 0 t m k.rest us ws k.numbered (subst (λ j. HaveRoomFor (record { target = j; message = m } ∷ k.rest) us) zero_more k.room) g);
      run = then_same vs us ws k.run run;
      events = ap events_in moved ∙ accepting_does_nothing (states us) x ∙ k.events;
      fewer = omega (arith, ap length left, ap length k.all);
    }
