-- Servers in a row: each is found at the place of its number, and one changes alone.
use Rattle.std.proofs.Common.{◌≡◌, ℕ, zero, suc, ◌+◌, ◌==◌, ◌<◌, ◌≤◌, Bool, true, false, if◌then◌else◌, List, [], ◌∷◌, length, Some, None, refl, sym, ap, subst, ◌∙◌, arith}
use Rattle.std.specs.Prelude.{slice_get, slice_set, slice_index_or}
use Rattle.fr_typing.proofs.PlaceLemmas.{eq_cases}
use Rattle.fr_base.specs.declared.instruction.Instr.{Instr}
use Rattle.fr_base.specs.declared.settings.Options.{Options}
use Rattle.server_msgs.specs.declared.message.Message.{Message}
use Rattle.server_model.specs.Servers.{Sent, Server, server_at}
use Rattle.server_model.specs.Clusters.{with_server, accept_at}
use Rattle.server_core.specs.Servers.{ServerView}
use Rattle.cluster_core.specs.Views.{states, events_in, code_in, options_in, AreNumbered, AllKeep}
use Rattle.cluster_core.specs.Rows.{Changes, Accepts, Grows, IsSameRun}

-- CHANGES AT ONE PLACE

pub changed : (R : ServerView → ServerView → Type 0) (i : ℕ) (vs : List ServerView) (v w : ServerView) → slice_get vs i ≡ Some v → R v w → Changes R i vs (slice_set vs i w)
changed R i [] v w e r = absurd (cc e)
changed R zero (x ∷ vs) v w e r = let same : v ≡ x = cc in (subst (λ y. R y w) same r, refl)
changed R (suc i) (x ∷ vs) v w e r = (refl, changed R i vs v w e r)

pub not_there : (R : ServerView → ServerView → Type 0) (i : ℕ) (vs : List ServerView) → slice_get vs i ≡ None → Changes R i vs vs
not_there R i [] e = refl
not_there R zero (x ∷ vs) e = absurd (cc e)
not_there R (suc i) (x ∷ vs) e = (refl, not_there R i vs e)

-- what an index gives
pub at_place : (vs : List ServerView) (i : ℕ) (v : ServerView) → i < length vs → v ≡ slice_index_or vs i v → slice_get vs i ≡ Some v
at_place [] i v l e = absurd (omega (arith, l))
at_place (x ∷ vs) zero v l e = ap Some (sym e)
at_place (x ∷ vs) (suc i) v l e = at_place vs i v (omega (arith, l)) e

pub past_end : (vs : List ServerView) (i : ℕ) → length vs ≤ i → slice_get vs i ≡ None
past_end [] i l = refl
past_end (x ∷ vs) zero l = absurd (omega (arith, l))
past_end (x ∷ vs) (suc i) l = past_end vs i (omega (arith, l))

-- what a change keeps of the run
pub record KeepsRun (v w : ServerView) : Type 0 where
  pub code : w.code ≡ v.code
  pub options : w.options ≡ v.options
  pub number : w.state.rest.number ≡ v.state.rest.number

pub same_row : (vs : List ServerView) → IsSameRun vs vs
same_row vs = record { code = refl; options = refl; long = refl; numbered = λ n g. g; alike = λ c o g. g }

module _ (R : ServerView → ServerView → Type 0) (keeps : (v w : ServerView) → R v w → KeepsRun v w) where
  same_code : (i : ℕ) (vs ws : List ServerView) → Changes R i vs ws → (code_in ws ≡ code_in vs) × (options_in ws ≡ options_in vs)
  same_code i [] ws e = (ap code_in e, ap options_in e)
  same_code i (v ∷ vs) [] g = absurd g
  same_code zero (v ∷ vs) (w ∷ ws) g = let k = keeps v w g.0 in (k.code, k.options)
  same_code (suc i) (v ∷ vs) (w ∷ ws) g = (ap (λ x. x.code) g.0, ap (λ x. x.options) g.0)

  same_long : (i : ℕ) (vs ws : List ServerView) → Changes R i vs ws → length ws ≡ length vs
  same_long i [] ws e = ap length e
  same_long i (v ∷ vs) [] g = absurd g
  same_long zero (v ∷ vs) (w ∷ ws) g = ap suc (ap length g.1)
  same_long (suc i) (v ∷ vs) (w ∷ ws) g = ap suc (same_long i vs ws g.1)

  same_numbers : (i n : ℕ) (vs ws : List ServerView) → Changes R i vs ws → AreNumbered n (states vs) → AreNumbered n (states ws)
  same_numbers i n [] ws e a = subst (λ x. AreNumbered n (states x)) (sym e) a
  same_numbers i n (v ∷ vs) [] g a = absurd g
  same_numbers zero n (v ∷ vs) (w ∷ ws) g a = let k = keeps v w g.0 in (k.number ∙ a.0, subst (λ x. AreNumbered (n + 1) (states x)) (sym g.1) a.1)
  same_numbers (suc i) n (v ∷ vs) (w ∷ ws) g a = (ap (λ x. x.state.rest.number) g.0 ∙ a.0, same_numbers i (n + 1) vs ws g.1 a.1)

  same_kept : (i : ℕ) (vs ws : List ServerView) (c : List Instr) (o : Options) → Changes R i vs ws → AllKeep c o vs → AllKeep c o ws
  same_kept i [] ws c o e a = subst (AllKeep c o) (sym e) a
  same_kept i (v ∷ vs) [] c o g a = absurd g
  same_kept zero (v ∷ vs) (w ∷ ws) c o g a = let k = keeps v w g.0 in ((k.code ∙ a.0.0, k.options ∙ a.0.1), subst (AllKeep c o) (sym g.1) a.1)
  same_kept (suc i) (v ∷ vs) (w ∷ ws) c o g a = ((ap (λ x. x.code) g.0 ∙ a.0.0, ap (λ x. x.options) g.0 ∙ a.0.1), same_kept i vs ws c o g.1 a.1)

  pub same_run : (i : ℕ) (vs ws : List ServerView) → Changes R i vs ws → IsSameRun vs ws
  same_run i vs ws g =
      let c = same_code i vs ws g in record {
        code = c.0;
        options = c.1;
        long = same_long i vs ws g;
        numbered = λ n a. same_numbers i n vs ws g a;
        alike = λ code o a. same_kept i vs ws code o g a;
      }

pub then_same : (us vs ws : List ServerView) → IsSameRun us vs → IsSameRun vs ws → IsSameRun us ws
then_same us vs ws a b = record {
  code = b.code ∙ a.code;
  options = b.options ∙ a.options;
  long = b.long ∙ a.long;
  numbered = λ n g. b.numbered n (a.numbered n g);
  alike = λ c o g. b.alike c o (a.alike c o g);
}

pub accepts_keep : (m : Message) (v w : ServerView) → Accepts m v w → KeepsRun v w
accepts_keep m v w a = record { code = a.code; options = a.options; number = ap (λ (s : Server). s.rest.number) a.state }

pub grows_keep : (room : ℕ) (made : Bool) (v w : ServerView) → Grows room made v w → KeepsRun v w
grows_keep room made v w a = record { code = a.code; options = a.options; number = ap (λ (s : Server). s.rest.number) a.state }

-- WHERE A SERVER STANDS

-- a number past the place isn't that of the first
later : {X : Type 0} (n i m : ℕ) (x y : X) → m ≡ n → (if m == n + suc i then x else y) ≡ y
later n i m x y e = eq_cases (λ b. (if b then x else y) ≡ y) m (n + suc i) (λ q. absurd (omega (arith, e, q))) (λ ne. refl)

first : {X : Type 0} (n m : ℕ) (x y : X) → m ≡ n → (if m == n + zero then x else y) ≡ x
first n m x y e = eq_cases (λ b. (if b then x else y) ≡ x) m (n + zero) (λ q. refl) (λ ne. absurd (ne (omega (arith, e))))

shifted : (n i : ℕ) → n + suc i ≡ (n + 1) + i
shifted n i = omega arith

pub stands_from : (n i : ℕ) (ss : List Server) → AreNumbered n ss → server_at ss (n + i) ≡ slice_get ss i
stands_from n i [] a = refl
stands_from n zero (s ∷ ss) a = first n s.rest.number (Some s) (server_at ss (n + zero)) a.0
stands_from n (suc i) (s ∷ ss) a =
    later n i s.rest.number (Some s) (server_at ss (n + suc i)) a.0 ∙ ap (server_at ss) (shifted n i) ∙ stands_from (n + 1) i ss a.1

pub stands : (i : ℕ) (ss : List Server) → AreNumbered 0 ss → server_at ss i ≡ slice_get ss i
stands i ss a = let m : 0 + i ≡ i = omega arith in subst (λ j. server_at ss j ≡ slice_get ss i) m (stands_from 0 i ss a)

with_from : (n i : ℕ) (ss : List Server) (new : Server) → AreNumbered n ss → with_server ss (n + i) new ≡ slice_set ss i new
with_from n i [] new a = refl
with_from n zero (s ∷ ss) new a = first n s.rest.number (new ∷ ss) (s ∷ with_server ss (n + zero) new) a.0
with_from n (suc i) (s ∷ ss) new a =
    later n i s.rest.number (new ∷ ss) (s ∷ with_server ss (n + suc i) new) a.0 ∙ ap (λ j. s ∷ with_server ss j new) (shifted n i) ∙ ap (λ l. s ∷ l) (with_from (n + 1) i ss new a.1)

pub with_at : (i : ℕ) (ss : List Server) (new : Server) → AreNumbered 0 ss → with_server ss i new ≡ slice_set ss i new
with_at i ss new a = let m : 0 + i ≡ i = omega arith in subst (λ j. with_server ss j new ≡ slice_set ss i new) m (with_from 0 i ss new a)

pub states_set : (vs : List ServerView) (i : ℕ) (w : ServerView) → states (slice_set vs i w) ≡ slice_set (states vs) i w.state
states_set [] i w = refl
states_set (v ∷ vs) zero w = refl
states_set (v ∷ vs) (suc i) w = ap (λ l. v.state ∷ l) (states_set vs i w)

pub states_at : (vs : List ServerView) (i : ℕ) (v : ServerView) → slice_get vs i ≡ Some v → slice_get (states vs) i ≡ Some v.state
states_at [] i v e = absurd (cc e)
states_at (x ∷ vs) zero v e = let same : x ≡ v = cc in ap (λ (y : ServerView). Some y.state) same
states_at (x ∷ vs) (suc i) v e = states_at vs i v e

pub states_past : (vs : List ServerView) (i : ℕ) → slice_get vs i ≡ None → slice_get (states vs) i ≡ None
states_past [] i e = refl
states_past (x ∷ vs) zero e = absurd (cc e)
states_past (x ∷ vs) (suc i) e = states_past vs i e

pub states_long : (vs : List ServerView) → length (states vs) ≡ length vs
states_long [] = refl
states_long (v ∷ vs) = ap suc (states_long vs)

-- WHAT A MESSAGE AND ROOM CHANGE

accepted_from : (n i : ℕ) (m : Message) (vs ws : List ServerView) → AreNumbered n (states vs) → Changes (Accepts m) i vs ws → states ws ≡ accept_at (states vs) (record { target = n + i; message = m })
accepted_from n i m [] ws a e = ap states e
accepted_from n i m (v ∷ vs) [] a g = absurd g
accepted_from n zero m (v ∷ vs) (w ∷ ws) a g =
    let k = g.0 in
    ap (λ s. s ∷ states ws) k.state ∙ ap (λ l. Rattle.server_model.specs.Clusters.accept m v.state ∷ states l) g.1
    ∙ sym (first n v.state.rest.number (Rattle.server_model.specs.Clusters.accept m v.state ∷ states vs) (v.state ∷ accept_at (states vs) (record { target = n + zero; message = m })) a.0)
accepted_from n (suc i) m (v ∷ vs) (w ∷ ws) a g =
    ap (λ (x : ServerView). x.state ∷ states ws) g.0 ∙ ap (λ l. v.state ∷ l) (accepted_from (n + 1) i m vs ws a.1 g.1) ∙ ap (λ j. v.state ∷ accept_at (states vs) (record { target = j; message = m })) (sym (shifted n i))
    ∙ sym (later n i v.state.rest.number (Rattle.server_model.specs.Clusters.accept m v.state ∷ states vs) (v.state ∷ accept_at (states vs) (record { target = n + suc i; message = m })) a.0)

pub accepted : (i : ℕ) (m : Message) (vs ws : List ServerView) → AreNumbered 0 (states vs) → Changes (Accepts m) i vs ws → states ws ≡ accept_at (states vs) (record { target = i; message = m })
accepted i m vs ws a g = let e : 0 + i ≡ i = omega arith in subst (λ j. states ws ≡ accept_at (states vs) (record { target = j; message = m })) e (accepted_from 0 i m vs ws a g)

pub grown : (room : ℕ) (made : Bool) (i : ℕ) (vs ws : List ServerView) → Changes (Grows room made) i vs ws → states ws ≡ states vs
grown room made i [] ws e = ap states e
grown room made i (v ∷ vs) [] g = absurd g
grown room made zero (v ∷ vs) (w ∷ ws) g = let k = g.0 in ap (λ s. s ∷ states ws) k.state ∙ ap (λ l. v.state ∷ states l) g.1
grown room made (suc i) (v ∷ vs) (w ∷ ws) g = ap (λ (x : ServerView). x.state ∷ states ws) g.0 ∙ ap (λ l. v.state ∷ l) (grown room made i vs ws g.1)

-- EVENTS

pub accepting_does_nothing : (ss : List Server) (x : Sent) → events_in (accept_at ss x) ≡ events_in ss
accepting_does_nothing [] x = refl
accepting_does_nothing (s ∷ ss) x = by (s.rest.number == x.target) (accepting_does_nothing ss x)
  where
    by : (b : Bool) → events_in (accept_at ss x) ≡ events_in ss → events_in (if b then Rattle.server_model.specs.Clusters.accept x.message s ∷ ss else s ∷ accept_at ss x) ≡ s.events + events_in ss
    by true e = refl
    by false e = ap (λ n. s.events + n) e

pub states_same : (vs : List ServerView) (i : ℕ) (v w : ServerView) → slice_get vs i ≡ Some v → w.state ≡ v.state → states (slice_set vs i w) ≡ states vs
states_same [] i v w e f = absurd (cc e)
states_same (x ∷ vs) zero v w e f = let same : v ≡ x = cc in ap (λ s. s ∷ states vs) (f ∙ ap (λ (y : ServerView). y.state) same)
states_same (x ∷ vs) (suc i) v w e f = ap (λ l. x.state ∷ l) (states_same vs i v w e f)

pub run_set : (vs : List ServerView) (i : ℕ) (v w : ServerView) → slice_get vs i ≡ Some v → KeepsRun v w → IsSameRun vs (slice_set vs i w)
run_set vs i v w e k = same_run KeepsRun (λ v w k. k) i vs (slice_set vs i w) (changed KeepsRun i vs v w e k)
