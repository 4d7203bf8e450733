-- Some calls on the threads that a server started, computed.
use Rattle.std.specs.Prelude.{◌≡◌, ℕ, pos, Bool, true, false, List, [], ◌∷◌, Some, None}
use Rattle.heap_partition.specs.declared.value.Owned.{Owned}
use Rattle.heap_partition.specs.declared.value.Owned.TheVariants as owned
use Rattle.join_home.specs.Tasks.{Task, TaskState, going, let_go, kept, asked, in_pair, can_begin, begin, can_begin_pair, begin_pair, ended, ask, let_go_of}
use Rattle.join_home.specs.declared.answers.EndedAs.TheVariants.{Answer, Both, LetGo, Kept}

abbrev int : ℕ → Owned
int n = owned.Int (pos n)

-- thread 1 alone
abbrev one : TaskState → List Task
one s = record { thread = 1; state = s } ∷ []

-- threads 1 and 2 are branches of thread 9, and these of them have ended
abbrev pair : (first second : Bool) → List Task
pair first second = record { thread = 1; state = in_pair 9 first } ∷ record { thread = 2; state = in_pair 9 second } ∷ []

pub record TasksCompute : Type 0 where
  pub begun : begin [] 1 ≡ one going
  pub begun_twice : can_begin (one going) 1 ≡ false
  -- a result goes to the one that asked, or is kept for it
  pub asked_early : ask (one going) 1 3 8 ≡ Some (one (asked 3 8), None)
  pub asked_late : ask (one (kept (int 5))) 1 3 8 ≡ Some ([], Some (int 5))
  pub asked_twice : ask (one (asked 3 8)) 1 3 8 ≡ None
  pub answered : ended (one (asked 3 8)) 1 (int 5) ≡ Some ([], Answer 3 8 (int 5))
  pub is_kept : ended (one going) 1 (int 5) ≡ Some (one (kept (int 5)), Kept)
  pub ended_twice : ended (one (kept (int 5))) 1 (int 5) ≡ None
  -- a task that is dropped: the result goes too
  pub let_go_early : let_go_of (one going) 1 ≡ Some (one let_go, None)
  pub let_go_late : let_go_of (one (kept (int 5))) 1 ≡ Some ([], Some (int 5))
  pub for_nobody : ended (one let_go) 1 (int 5) ≡ Some ([], LetGo (int 5))
  -- the parent is told once both have ended, in either order
  pub begun_pair : begin_pair [] 9 1 2 ≡ pair false false
  pub one_pair : can_begin_pair (pair false false) 9 3 4 ≡ false
  pub first_of_two : ended (pair false false) 2 owned.Unit ≡ Some (pair false true, Kept)
  pub second_of_two : ended (pair false true) 1 owned.Unit ≡ Some ([], Both 9)
  pub other_order : ended (pair true false) 2 owned.Unit ≡ Some ([], Both 9)
  pub none_asks : ask (pair false false) 1 3 8 ≡ None
