-- Room for messages that wait (this project's own).
use Rattle.std.specs.Prelude.{◌≤◌, ⊤, ℕ, zero, suc, List, [], ◌∷◌, length}
use Rattle.server_model.specs.Servers.{Sent}
use Rattle.server_model.specs.Laws.{messages_to}
use Rattle.server_core.specs.Servers.{ServerView}

-- each server has room for so many
abbrev pub HaveRoom : ℕ → List ServerView → Type 0
HaveRoom room [] = ⊤
HaveRoom room (v ∷ vs) = (room ≤ v.inbox_room) × HaveRoom room vs

-- each server has room for those of the messages that go to it
abbrev pub HaveRoomFor : List Sent → List ServerView → Type 0
HaveRoomFor xs [] = ⊤
HaveRoomFor xs (v ∷ vs) = (length (messages_to v.state.rest.number xs) ≤ v.inbox_room) × HaveRoomFor xs vs

-- each server but the one at that place has room for so many
abbrev pub HaveRoomBut : ℕ → ℕ → List ServerView → Type 0
HaveRoomBut n room [] = ⊤
HaveRoomBut zero room (v ∷ vs) = HaveRoom room vs
HaveRoomBut (suc n) room (v ∷ vs) = (room ≤ v.inbox_room) × HaveRoomBut n room vs
