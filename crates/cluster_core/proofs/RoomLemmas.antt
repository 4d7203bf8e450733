-- Room for messages at each server.
use Rattle.std.proofs.Common.{◌≡◌, ℕ, zero, suc, ◌+◌, ◌<◌, ◌≤◌, true, List, [], ◌∷◌, length, take, Some, refl, sym, ap, subst, ◌∙◌, arith}
use Rattle.std.specs.Prelude.{slice_get, slice_set}
use Rattle.fr_base.specs.declared.instruction.Instr.{Instr}
use Rattle.fr_base.specs.declared.settings.Options.{Options}
use Rattle.server_core.specs.Servers.{ServerView}
use Rattle.cluster_core.specs.Views.{states, code_in, options_in, AreNumbered, AllKeep}
use Rattle.cluster_core.specs.Rooms.{HaveRoom}
use Rattle.cluster_core.specs.Rows.{Grows, HaveGrown, IsSameRun}

-- ROOM AT ALL

pub grows_itself : (vs : List ServerView) → HaveGrown vs vs
grows_itself [] = tt
grows_itself (v ∷ vs) = (record { state = refl; code = refl; options = refl; no_less = omega arith; room_made = λ e. omega arith }, grows_itself vs)

pub grow_set : (us vs : List ServerView) (i : ℕ) (v w : ServerView) → HaveGrown us vs → slice_get vs i ≡ Some v → Grows 0 true v w → HaveGrown us (slice_set vs i w)
grow_set [] [] i v w g e k = tt
grow_set [] (x ∷ vs) i v w g e k = absurd g
grow_set (u ∷ us) [] i v w g e k = absurd g
grow_set (u ∷ us) (x ∷ vs) zero v w g e k =
    let same : v ≡ x = cc in
    let first : Grows 0 true x w = subst (λ y. Grows 0 true y w) same k in
    let before = g.0 in (
      record {
        state = first.state ∙ before.state;
        code = first.code ∙ before.code;
        options = first.options ∙ before.options;
        no_less = omega (arith, first.no_less, before.no_less);
        room_made = λ q. omega arith;
      },
      g.1,
    )
grow_set (u ∷ us) (x ∷ vs) (suc i) v w g e k = (g.0, grow_set us vs i v w g.1 e k)

room_next : (r i : ℕ) (vs : List ServerView) (w : ServerView) → i < length vs → HaveRoom r (take i vs) → r ≤ w.inbox_room → HaveRoom r (take (suc i) (slice_set vs i w))
room_next r i [] w l h k = absurd (omega (arith, l))
room_next r zero (v ∷ vs) w l h k = (k, tt)
room_next r (suc i) (v ∷ vs) w l h k = (h.0, room_next r i vs w (omega (arith, l)) h.1 k)

pub room_set : (r i : ℕ) (vs : List ServerView) (w : ServerView) → i < length vs → HaveRoom r (take i vs) → r ≤ w.inbox_room → HaveRoom r (take (i + 1) (slice_set vs i w))
room_set r i vs w l h k = let m : suc i ≡ i + 1 = omega arith in subst (λ j. HaveRoom r (take j (slice_set vs i w))) m (room_next r i vs w l h k)

pub grown_states : (vs ws : List ServerView) → HaveGrown vs ws → states ws ≡ states vs
grown_states [] [] g = refl
grown_states [] (w ∷ ws) g = absurd g
grown_states (v ∷ vs) [] g = absurd g
grown_states (v ∷ vs) (w ∷ ws) g = let k = g.0 in ap (λ s. s ∷ states ws) k.state ∙ ap (λ l. v.state ∷ l) (grown_states vs ws g.1)

pub grown_long : (vs ws : List ServerView) → HaveGrown vs ws → length ws ≡ length vs
grown_long [] [] g = refl
grown_long [] (w ∷ ws) g = absurd g
grown_long (v ∷ vs) [] g = absurd g
grown_long (v ∷ vs) (w ∷ ws) g = ap suc (grown_long vs ws g.1)

grown_kept : (vs ws : List ServerView) (c : List Instr) (o : Options) → HaveGrown vs ws → AllKeep c o vs → AllKeep c o ws
grown_kept [] [] c o g a = tt
grown_kept [] (w ∷ ws) c o g a = absurd g
grown_kept (v ∷ vs) [] c o g a = absurd g
grown_kept (v ∷ vs) (w ∷ ws) c o g a = let k = g.0 in ((k.code ∙ a.0.0, k.options ∙ a.0.1), grown_kept vs ws c o g.1 a.1)

grown_code : (vs ws : List ServerView) → HaveGrown vs ws → (code_in ws ≡ code_in vs) × (options_in ws ≡ options_in vs)
grown_code [] [] g = (refl, refl)
grown_code [] (w ∷ ws) g = absurd g
grown_code (v ∷ vs) [] g = absurd g
grown_code (v ∷ vs) (w ∷ ws) g = let k = g.0 in (k.code, k.options)

pub grown_run : (vs ws : List ServerView) → HaveGrown vs ws → IsSameRun vs ws
grown_run vs ws g =
    let c = grown_code vs ws g in record {
      code = c.0;
      options = c.1;
      long = grown_long vs ws g;
      numbered = λ n a. subst (AreNumbered n) (sym (grown_states vs ws g)) a;
      alike = λ code o a. grown_kept vs ws code o g a;
    }
