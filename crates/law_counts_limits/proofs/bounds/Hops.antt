-- `passed` is never above the number of hops of a write, whatever event is done.
use Rattle.std.proofs.Common.{◌≡◌, ℕ, ◌==◌, ◌&&◌, not, nat_le, Bool, true, false, List, Some, refl, subst, arith}
use Rattle.std.specs.Prelude.{slice_get}
use Rattle.std.proofs.lemmas.Bool.Decides.{nat_tests}
use Rattle.law_counts_things.specs.Below.fr_base.declared.instruction.Instr.{Instr}
use Rattle.law_counts_things.specs.Below.migration.Packing.{packed}
use Rattle.law_counts_things.specs.Below.thread_state.View.{ThreadState, new_thread}
use Rattle.law_counts_things.specs.Below.thread_state.declared.phase.Phase.{Phase}
use Rattle.law_counts_things.specs.Below.thread_state.declared.phase.Phase.TheVariants as phase
use Rattle.law_counts_things.specs.Below.server_model.Servers.{Server, Cluster, server_at}
use Rattle.law_counts_things.specs.Below.server_model.Work.{Hand, thread_in}
use Rattle.law_counts_things.specs.Below.server_model.Objects.{deliver_fetched, deliver_moved}
use Rattle.law_counts_things.specs.Below.server_model.Events.{Stepped, is_ready, step}
use Rattle.law_counts_things.specs.Below.coherent_memory.Names.{one, other}
use Rattle.law_counts_things.specs.Below.coherent_memory.Follow.{Standing}
use Rattle.law_counts_things.specs.Below.coherent_memory.Sight.{sight}
use Rattle.law_counts_things.specs.Below.coherent_memory.Paths.{path_of}
use Rattle.law_counts_things.specs.Below.coherent_memory.Walking.{in_walk, early, in_turn, not_asked, out_of_turn}
use Rattle.law_counts_things.specs.Below.coherent_memory.Coherent.{IsSound, passed_within}
use Rattle.law_counts_things.proofs.Below.coherent_memory.Turn.{turn_law}
use Rattle.law_counts_things.proofs.Below.law_counts_sums.Results.{weaker}
use Rattle.law_counts_things.proofs.Below.law_counts_sums.Each.{at_most}
use Rattle.law_counts_things.specs.things.Laws.{EachEventKeeps}
use Rattle.law_counts_things.proofs.things.Handed.{Stood, standing, known}
use Rattle.law_counts_things.proofs.names.Named.{below_limit}
use Rattle.law_counts_limits.proofs.bounds.Passed.{hops_of, Within, none_within, step_within, moved_within, fetched_within}
use Rattle.law_counts_limits.proofs.bounds.Turns.{ThreadsTurn, threads_turn}

-- one where a thread has passed more than its place has
abbrev beyond : List Instr → Standing → ℕ
beyond code x = other (nat_le x.thread.passed (hops_of (slice_get code x.thread.pc) x.thread))

-- that is nothing just where it is within its place
is_within : (code : List Instr) (y : ThreadState) → other (nat_le y.passed (hops_of (slice_get code y.pc) y)) ≡ 0 → Within code y
is_within code y z = at_most y.passed (hops_of (slice_get code y.pc) y) z

not_beyond : (code : List Instr) (y : ThreadState) → Within code y → other (nat_le y.passed (hops_of (slice_get code y.pc) y)) ≡ 0
not_beyond code y l = below_limit y.passed (hops_of (slice_get code y.pc) y) l

-- outside of a walk nothing is passed
none_passed : (p : Phase) (n : ℕ) → one (not (in_walk p) && not (n == 0)) ≡ 0 → in_walk p ≡ false → n ≡ 0
none_passed p n z e = by (n == 0) refl (subst (λ b. one (not b && not (n == 0)) ≡ 0) e z)
  where
    by : (b : Bool) → (n == 0) ≡ b → one (not b) ≡ 0 → n ≡ 0
    by true q z = grind (arith, nat_tests, q)
    by false q z = absurd (cc z)

-- who is ready is in no walk
ready_still : (p : Phase) → is_ready p ≡ true → in_walk p ≡ false
ready_still phase.Ready e = refl
ready_still p e = absurd (cc e)

module _ (k : Cluster) (sound : IsSound k) (number : ℕ) (s : Server) (here : server_at k.servers number ≡ Some s) (t : ℕ) (y : ThreadState) (there : thread_in s.threads t ≡ Some y) where
  abbrev me : Standing
  me = standing k sound number s here t y there

  -- outside of a walk this thread has passed nothing
  nothing_passed : in_walk y.phase ≡ false → y.passed ≡ 0
  nothing_passed e = none_passed y.phase y.passed (known k sound number s here t y there early sound.walks.passed_in_a_walk) e

  -- who waits for a word waits in turn
  in_its_turn : (w : ℕ) → y.phase ≡ phase.WaitCell w → not_asked (sight k) me w (in_turn (sight k) me w (path_of (slice_get k.code y.pc) y)) ≡ 0
  in_its_turn w e =
      let turn : out_of_turn (sight k) me y.phase ≡ 0 = known k sound number s here t y there (λ x. out_of_turn (sight k) x x.thread.phase) (turn_law.none_counted (sight k) sound.walks.wait_in_turn) in
      subst (λ r. out_of_turn (sight k) me r ≡ 0) e turn

-- each event leaves each thread within its place
hops_keep : ThreadsTurn IsSound beyond
hops_keep = record {
  before = λ k sound. sound.walks.passed_within;
  turns = λ k number s sound few here. record {
    steps = λ t y i there p at h e.
        weaker (λ (d : Stepped). Within k.code d.hand.thread) (λ (d : Stepped). Stood (beyond k.code) s.rest.number d.hand.thread) (step k.options.servers i h) (step_within k.code i y at k.options.servers h e (is_within k.code y p)) (λ d l. not_beyond k.code d.hand.thread l);
    comes = λ t y there p v c h e.
        weaker (λ (d : Hand). Within k.code d.thread) (λ (d : Hand). Stood (beyond k.code) s.rest.number d.thread) (deliver_moved k.code v c h)
        (moved_within k.code y (is_within k.code y p) (sight k) (me k sound number s here t y there) refl (in_its_turn k sound number s here t y there) v c h e) (λ d l. not_beyond k.code d.thread l);
    copied = λ t y there p v c h e.
        weaker (λ (d : Hand). Within k.code d.thread) (λ (d : Hand). Stood (beyond k.code) s.rest.number d.thread) (deliver_fetched v c h) (fetched_within k.code y (is_within k.code y p) v c h e) (λ d l. not_beyond k.code d.thread l);
    answered = λ t y g r there p e. let z = record y { gift = g; phase = r } in not_beyond k.code z (none_within k.code z (nothing_passed k sound number s here t y there e));
    arrives = λ t q. q;
    starts = λ t n y i u pc vs there p at e c. not_beyond k.code (new_thread u pc vs) (none_within k.code (new_thread u pc vs) refl);
    leaves = λ t n y there p r. let z = packed (record y { moved_since_step = true }) in not_beyond k.code z (none_within k.code z (nothing_passed k sound number s here t y there (ready_still y.phase r)));
  };
}

pub passed_kept : EachEventKeeps passed_within
passed_kept = threads_turn IsSound (λ k sound. sound) beyond hops_keep
