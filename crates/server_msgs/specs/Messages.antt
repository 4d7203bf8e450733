-- The kinds of messages (this project's rule).
use Rattle.fr_base.specs.declared.message.Kind.{Kind}
use Rattle.fr_base.specs.declared.message.Kind.TheVariants as kind
use Rattle.server_msgs.specs.declared.message.Message.{Message}
use Rattle.server_msgs.specs.declared.message.Message.TheVariants.{Fetch, Fetched, Move, Moved, Drop, Lock, Granted, Unlock, Dup, Dupped, Release, Start, Join, Joined, Finished, Migrate}

-- what the message is for
abbrev pub kind_of : Message → Kind
kind_of (Fetch w o s t) = kind.Fetch
kind_of (Fetched w c t) = kind.Fetched
kind_of (Move w o s t) = kind.Move
kind_of (Moved w c t) = kind.Moved
kind_of (Drop w o) = kind.Drop
kind_of (Lock m s t) = kind.Lock
kind_of (Granted m v t) = kind.Granted
kind_of (Unlock m v) = kind.Unlock
kind_of (Dup m s t) = kind.Dup
kind_of (Dupped m t) = kind.Dupped
kind_of (Release x) = kind.Release
kind_of (Start p) = kind.Start
kind_of (Join u s t) = kind.Join
kind_of (Joined u v t) = kind.Joined
kind_of (Finished t v) = kind.Finished
kind_of (Migrate p) = kind.Migrate
