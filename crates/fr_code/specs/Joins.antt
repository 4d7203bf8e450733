-- Where several ways lead to an instruction (this project's rule; joins are Featherweight Rust's).
use Rattle.std.specs.Prelude.{◌≡◌, Bool, is_some, List, [], ◌∷◌, map, Option, Some, None}
use Rattle.fr_sound.specs.Below.fr_typing.Kinds.{SetTest, Kind, join_kind, map_some}
use Rattle.fr_sound.specs.Below.fr_typing.Places.{Env, alike}
use Rattle.fr_sound.specs.Below.fr_store.JoinRows.{join_env}
use Rattle.fr_code.specs.CodeTypes.{Entry}

abbrev pub and_temp : Option Kind → Option (List Kind) → Option (List Kind)
and_temp None ks = None
and_temp (Some k) ks = map_some (λ ls. k ∷ ls) ks

-- the join of the types of temporary values, as many on both ways
abbrev pub join_temps : SetTest → List Kind → List Kind → Option (List Kind)
join_temps same [] [] = Some []
join_temps same (k ∷ ks) (l ∷ ls) = and_temp (join_kind same k l) (join_temps same ks ls)
join_temps same ks ls = None

-- which slots are variables: the others are the hidden ones of locks
abbrev pub have_names : Env → List Bool
have_names e = map (λ s. is_some s.name) e

-- an entry's environment and the types of its temporary values are the joins of those of two others, and the rest is the same in all three: what
-- its thread gives, whether its branches go on, and which slots are hidden ones of locks
pub record IsJoin (x y joined : Entry) : Type 0 where
  pub env : join_env x.env y.env ≡ Some joined.env
  pub temps : join_temps (alike joined.env) x.temps y.temps ≡ Some joined.temps
  pub gives : (x.gives ≡ joined.gives) × (y.gives ≡ joined.gives)
  pub forked : (x.forked ≡ joined.forked) × (y.forked ≡ joined.forked)
  pub variables : (have_names x.env ≡ have_names joined.env) × (have_names y.env ≡ have_names joined.env)

-- what one way brings joins to what is known before an instruction: it is that, or it and what another way brings have that as their join
pub data JoinsTo : Entry → Entry → Type 0 where
  alone : {x : Entry} → JoinsTo x x
  first : {x y : Entry} (other : Entry) → IsJoin x other y → JoinsTo x y
  second : {x y : Entry} (other : Entry) → IsJoin other x y → JoinsTo x y
