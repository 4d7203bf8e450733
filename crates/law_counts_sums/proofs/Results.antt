-- What holds of a result, where there is one.
use Rattle.std.proofs.Common.{◌≡◌, Bool, true, false, if◌then◌else◌, Option, Some, None, refl, subst}
use Rattle.std.specs.Prelude.{option_map}
use Rattle.coherent_memory.specs.Below.thread_state.View.{ThreadState}
use Rattle.coherent_memory.specs.Below.server_model.Work.{Site, with_thread, then_some}
use Rattle.coherent_memory.specs.Below.server_model.Joining.{stand}
use Rattle.law_counts_sums.specs.Laws.{Gives}

pub then_gives : {X Y : Type 0} (P : Y → Type 0) (x : Option X) (go : X → Option Y) → ((a : X) → x ≡ Some a → Gives P (go a)) → Gives P (then_some x go)
then_gives P None go h = tt
then_gives P (Some a) go h = h a refl

pub map_gives : {X Y : Type 0} (P : Y → Type 0) (x : Option X) (g : X → Y) → ((a : X) → x ≡ Some a → P (g a)) → Gives P (option_map g x)
map_gives P None g h = tt
map_gives P (Some a) g h = h a refl

pub test_gives : {X : Type 0} (P : X → Type 0) (b : Bool) (x : Option X) → (b ≡ true → Gives P x) → Gives P (if b then x else None)
test_gives P true x h = h refl
test_gives P false x h = tt

-- CHAINS

pub bind_gives : {X Y : Type 0} (P : X → Type 0) (Q : Y → Type 0) (x : Option X) (go : X → Option Y) → Gives P x → ((a : X) → P a → Gives Q (go a)) → Gives Q (then_some x go)
bind_gives P Q None go h k = tt
bind_gives P Q (Some a) go h k = k a h

pub over_gives : {X Y : Type 0} (P : X → Type 0) (Q : Y → Type 0) (x : Option X) (g : X → Y) → Gives P x → ((a : X) → P a → Q (g a)) → Gives Q (option_map g x)
over_gives P Q None g h k = tt
over_gives P Q (Some a) g h k = k a h

pub weaker : {X : Type 0} (P Q : X → Type 0) (x : Option X) → Gives P x → ((a : X) → P a → Q a) → Gives Q x
weaker P Q None h k = tt
weaker P Q (Some a) h k = k a h

pub given_by : {X : Type 0} (P : X → Type 0) (x : Option X) (a : X) → Gives P x → x ≡ Some a → P a
given_by P None a h e = cc
given_by P (Some b) a h e = let same : b ≡ a = cc in subst P same h

pub both_give : {X : Type 0} (P Q R : X → Type 0) (x : Option X) → Gives P x → Gives Q x → ((a : X) → P a → Q a → R a) → Gives R x
both_give P Q R None p q f = tt
both_give P Q R (Some a) p q f = f a p q

-- A THREAD THAT ARRIVES

pub stand_gives : (P : Site → Type 0) (o : Option ThreadState) (t : ThreadState) (x : Site) → P (record x { threads = with_thread x.threads t }) → Gives P (stand o t x)
stand_gives P None t x h = h
stand_gives P (Some y) t x h = tt
