-- Room for two messages at each server, but perhaps at the one that does an event.
use Rattle.std.proofs.Common.{◌≡◌, ℕ, zero, suc, ◌≤◌, ◌==◌, Bool, true, false, if◌then◌else◌, List, [], ◌∷◌, length, Some, refl, sym, ap, subst, ◌∙◌, arith}
use Rattle.std.specs.Prelude.{slice_get, slice_set}
use Rattle.std.specs.List.{AllByRecursion}
use Rattle.server_msgs.specs.declared.message.Message.{Message}
use Rattle.server_model.specs.Servers.{Sent}
use Rattle.server_model.specs.Laws.{messages_to}
use Rattle.server_core.specs.Servers.{ServerView}
use Rattle.cluster_core.specs.Rooms.{HaveRoom, HaveRoomBut, HaveRoomFor}
use Rattle.cluster_core.specs.Rows.{Changes, Accepts, Grows, HaveGrown}
use Rattle.cluster_core.proofs.CountingLemmas.{room_for_all}

-- room that was made stays where servers grow
pub room_grown : (r : ℕ) (vs ws : List ServerView) → HaveGrown vs ws → HaveRoom r vs → HaveRoom r ws
room_grown r [] [] g h = tt
room_grown r [] (w ∷ ws) g h = absurd g
room_grown r (v ∷ vs) [] g h = absurd g
room_grown r (v ∷ vs) (w ∷ ws) g h = let k = g.0 in (omega (arith, k.no_less, h.0), room_grown r vs ws g.1 h.1)

-- less room than there is
room_less : (m r : ℕ) (vs : List ServerView) → m ≤ r → HaveRoom r vs → HaveRoom m vs
room_less m r [] l h = tt
room_less m r (v ∷ vs) l h = (omega (arith, l, h.0), room_less m r vs l h.1)

-- another state of that server leaves the others their room
pub room_set_there : (n r : ℕ) (vs : List ServerView) (w : ServerView) → HaveRoom r vs → HaveRoomBut n r (slice_set vs n w)
room_set_there n r [] w h = tt
room_set_there zero r (v ∷ vs) w h = h.1
room_set_there (suc n) r (v ∷ vs) w h = (h.0, room_set_there n r vs w h.1)

-- also where that server lacked it before
pub room_set_again : (n r : ℕ) (vs : List ServerView) (w : ServerView) → HaveRoomBut n r vs → HaveRoomBut n r (slice_set vs n w)
room_set_again n r [] w h = tt
room_set_again zero r (v ∷ vs) w h = h
room_set_again (suc n) r (v ∷ vs) w h = (h.0, room_set_again n r vs w h.1)

-- with room at that server too, each has it
pub room_everywhere : (n r : ℕ) (made : Bool) (ws zs : List ServerView) → HaveRoomBut n r ws → Changes (Grows r made) n ws zs → made ≡ true → HaveRoom r zs
room_everywhere n r made [] zs h g e = subst (HaveRoom r) (sym g) tt
room_everywhere n r made (w ∷ ws) [] h g e = absurd g
room_everywhere zero r made (w ∷ ws) (z ∷ zs) h g e = let k = g.0 in (k.room_made e, subst (HaveRoom r) (sym g.1) h)
room_everywhere (suc n) r made (w ∷ ws) (z ∷ zs) h g e = (subst (λ (x : ServerView). r ≤ x.inbox_room) (sym g.0) h.0, room_everywhere n r made ws zs h.1 g.1 e)

-- a message waits there, with room for so many again where there was memory
pub record Refilled (m : Message) (r : ℕ) (made : Bool) (v w : ServerView) : Type 0 where
  pub accepts : Accepts m v w
  pub ready : made ≡ true → r ≤ w.inbox_room

-- a message, and then room
pub then_refilled : (m : Message) (r t : ℕ) (made : Bool) (us ws zs : List ServerView) → Changes (Accepts m) t us ws → Changes (Grows r made) t ws zs → Changes (Refilled m r made) t us zs
then_refilled m r t made [] [] zs g h = h
then_refilled m r t made [] (w ∷ ws) zs g h = absurd (cc g)
then_refilled m r t made (u ∷ us) [] zs g h = absurd g
then_refilled m r zero made (u ∷ us) (w ∷ ws) [] g h = absurd h
then_refilled m r (suc t) made (u ∷ us) (w ∷ ws) [] g h = absurd h
then_refilled m r zero made (u ∷ us) (w ∷ ws) (z ∷ zs) g h =
    let a = g.0 in
    let b = h.0 in (
      record { accepts = record { state = b.state ∙ a.state; code = b.code ∙ a.code; options = b.options ∙ a.options; room = omega (arith, a.room, b.no_less) }; ready = b.room_made },
      h.1 ∙ g.1,
    )
then_refilled m r (suc t) made (u ∷ us) (w ∷ ws) (z ∷ zs) g h = (h.0 ∙ g.0, then_refilled m r t made us ws zs g.1 h.1)

-- the message alone
pub only_accepts : (m : Message) (r t : ℕ) (made : Bool) (us zs : List ServerView) → Changes (Refilled m r made) t us zs → Changes (Accepts m) t us zs
only_accepts m r t made [] zs g = g
only_accepts m r t made (u ∷ us) [] g = absurd g
only_accepts m r zero made (u ∷ us) (z ∷ zs) g = let a = g.0 in (a.accepts, g.1)
only_accepts m r (suc t) made (u ∷ us) (z ∷ zs) g = (g.0, only_accepts m r t made us zs g.1)

-- with room there again, all have it
refilled_all : (m : Message) (r t : ℕ) (made : Bool) (us zs : List ServerView) → Changes (Refilled m r made) t us zs → HaveRoom r us → made ≡ true → HaveRoom r zs
refilled_all m r t made [] zs g h e = subst (HaveRoom r) (sym g) tt
refilled_all m r t made (u ∷ us) [] g h e = absurd g
refilled_all m r zero made (u ∷ us) (z ∷ zs) g h e = let a = g.0 in (a.ready e, subst (HaveRoom r) (sym g.1) h.1)
refilled_all m r (suc t) made (u ∷ us) (z ∷ zs) g h e = (subst (λ (x : ServerView). r ≤ x.inbox_room) (sym g.0) h.0, refilled_all m r t made us zs g.1 h.1 e)

-- the others have their room again
pub refilled_but : (n : ℕ) (m : Message) (r t : ℕ) (made : Bool) (us zs : List ServerView) → Changes (Refilled m r made) t us zs → HaveRoomBut n r us → made ≡ true → HaveRoomBut n r zs
refilled_but n m r t made [] zs g h e = subst (HaveRoomBut n r) (sym g) tt
refilled_but n m r t made (u ∷ us) [] g h e = absurd g
refilled_but zero m r zero made (u ∷ us) (z ∷ zs) g h e = subst (HaveRoom r) (sym g.1) h
refilled_but zero m r (suc t) made (u ∷ us) (z ∷ zs) g h e = refilled_all m r t made us zs g.1 h e
refilled_but (suc n) m r zero made (u ∷ us) (z ∷ zs) g h e = let a = g.0 in (a.ready e, subst (HaveRoomBut n r) (sym g.1) h.1)
refilled_but (suc n) m r (suc t) made (u ∷ us) (z ∷ zs) g h e = (subst (λ (x : ServerView). r ≤ x.inbox_room) (sym g.0) h.0, refilled_but n m r t made us zs g.1 h.1 e)

-- none of the messages goes there
none_to : (n : ℕ) (xs : List Sent) → AllByRecursion (λ (x : Sent). (x.target == n) ≡ false) xs → messages_to n xs ≡ []
none_to n [] a = refl
none_to n (x ∷ xs) a = ap (λ b. if b then x.message ∷ messages_to n xs else messages_to n xs) a.0 ∙ none_to n xs a.1

-- at most so many messages, none of them to that server, have room
pub room_for_few : (n r : ℕ) (xs : List Sent) (vs : List ServerView) (w : ServerView) → HaveRoomBut n r vs → length xs ≤ r → slice_get vs n ≡ Some w → AllByRecursion (λ (x : Sent). (x.target == w.state.rest.number) ≡ false) xs → HaveRoomFor xs vs
room_for_few n r xs [] w h l e a = tt
room_for_few zero r xs (v ∷ vs) w h l e a =
    let same : w ≡ v = cc in
    let none : messages_to v.state.rest.number xs ≡ [] = none_to v.state.rest.number xs (subst (λ (y : ServerView). AllByRecursion (λ (x : Sent). (x.target == y.state.rest.number) ≡ false) xs) same a) in
    (omega (arith, ap length none), room_for_all xs vs (room_less (length xs) r vs l h))
room_for_few (suc n) r xs (v ∷ vs) w h l e a =
    let first = room_for_all xs (v ∷ []) (omega (arith, l, h.0), tt) in (first.0, room_for_few n r xs vs w h.1 l e a)
