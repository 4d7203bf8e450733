-- Chains of results, where each link takes what stands in for one thing to what stands in for another.
use Rattle.std.proofs.Common.{◌≡◌, Bool, true, false, if◌then◌else◌, Option, Some, None, refl, ap, ◌∙◌}
use Rattle.std.specs.Prelude.{option_map}
use Rattle.law_runs_whole.specs.Below.server_model.Work.{then_some}

pub map_over : {A A2 B B2 : Type 0} (e : A → A2) (d : B → B2) (o : Option A) (g : A → B) (g2 : A2 → B2) → ((a : A) → g2 (e a) ≡ d (g a)) → option_map g2 (option_map e o) ≡ option_map d (option_map g o)
map_over e d None g g2 h = refl
map_over e d (Some a) g g2 h = ap Some (h a)

pub then_over : {A A2 B B2 : Type 0} (e : A → A2) (d : B → B2) (o : Option A) (g : A → Option B) (g2 : A2 → Option B2) → ((a : A) → g2 (e a) ≡ option_map d (g a))
    → then_some (option_map e o) g2 ≡ option_map d (then_some o g)
then_over e d None g g2 h = refl
then_over e d (Some a) g g2 h = h a

-- after a first link
pub map_by : {A A2 B B2 : Type 0} (e : A → A2) (d : B → B2) (o2 : Option A2) (o : Option A) (g : A → B) (g2 : A2 → B2) → o2 ≡ option_map e o → ((a : A) → g2 (e a) ≡ d (g a))
    → option_map g2 o2 ≡ option_map d (option_map g o)
map_by e d o2 o g g2 first h = ap (option_map g2) first ∙ map_over e d o g g2 h

pub then_by : {A A2 B B2 : Type 0} (e : A → A2) (d : B → B2) (o2 : Option A2) (o : Option A) (g : A → Option B) (g2 : A2 → Option B2) → o2 ≡ option_map e o → ((a : A) → g2 (e a) ≡ option_map d (g a))
    → then_some o2 g2 ≡ option_map d (then_some o g)
then_by e d o2 o g g2 first h = ap (λ x. then_some x g2) first ∙ then_over e d o g g2 h

-- after the same thing
pub map_same : {A B B2 : Type 0} (d : B → B2) (o : Option A) (g : A → B) (g2 : A → B2) → ((a : A) → g2 a ≡ d (g a)) → option_map g2 o ≡ option_map d (option_map g o)
map_same d None g g2 h = refl
map_same d (Some a) g g2 h = ap Some (h a)

pub then_same : {A B B2 : Type 0} (d : B → B2) (o : Option A) (g : A → Option B) (g2 : A → Option B2) → ((a : A) → g2 a ≡ option_map d (g a)) → then_some o g2 ≡ option_map d (then_some o g)
then_same d None g g2 h = refl
then_same d (Some a) g g2 h = h a

-- after the same test
pub if_same : {B B2 : Type 0} (d : B → B2) (b : Bool) (x : Option B) (x2 : Option B2) → x2 ≡ option_map d x → (if b then x2 else None) ≡ option_map d (if b then x else None)
if_same d true x x2 h = h
if_same d false x x2 h = refl

pub if_either : {B B2 : Type 0} (d : B → B2) (b : Bool) (x y : B) (x2 y2 : B2) → x2 ≡ d x → y2 ≡ d y → (if b then x2 else y2) ≡ d (if b then x else y)
if_either d true x y x2 y2 h g = h
if_either d false x y x2 y2 h g = g
