-- What the nodes of those that wait at a home stand for: a queue for each mutex that was made.
use Rattle.std.specs.Prelude.{◌≡◌, ℕ, zero, suc, Bool, true, false, ◌==◌, ◌&&◌, List, [], ◌∷◌, ◌++◌, map, Option, None, Some, is_none, slice_get, slice_index_or, slice_set}
use Rattle.std.specs.List.{sum_by}
use Rattle.mutex_home.specs.declared.queues.Node.{Node}
use Rattle.mutex_home.specs.declared.queues.Ends.{Ends}

pub record QueuesView : Type 0 where
  -- who waits for each mutex that was made: server and thread, the first that asked first
  pub lists : List (List (ℕ × ℕ))
  -- how many wait in all
  pub waiting : ℕ
  -- how many fit without memory: that wait, and mutexes
  pub threads : ℕ
  pub mutexes : ℕ

abbrev pub node_at : List (Option Node) → Option ℕ → Option Node
node_at nodes None = None
node_at nodes (Some key) = slice_index_or nodes key None

abbrev pub linked : (Option ℕ → List (ℕ × ℕ)) → Option Node → List (ℕ × ℕ)
linked rest None = []
linked rest (Some x) = (x.server, x.thread) ∷ rest x.next

-- so many that wait, from that node on
abbrev pub chain : List (Option Node) → ℕ → Option ℕ → List (ℕ × ℕ)
chain nodes zero from = []
chain nodes (suc n) from = linked (chain nodes n) (node_at nodes from)

-- where none comes after a node, it is the last
abbrev pub is_end : ℕ → Option ℕ → ℕ → Bool
is_end zero None last = false
is_end zero (Some key) last = key == last
is_end (suc n) from last = true

abbrev pub is_link : (Option ℕ → Bool) → ℕ → Bool → Option Node → Bool
is_link rest mutex ends None = false
is_link rest mutex ends (Some x) = (x.mutex == mutex) && (ends && rest x.next)

-- from that node on there are so many, all of one mutex, and the last has that key
abbrev pub is_chain : List (Option Node) → ℕ → ℕ → Option ℕ → ℕ → Bool
is_chain nodes mutex zero from last = is_none from
is_chain nodes mutex (suc n) from last = is_link (λ next. is_chain nodes mutex n next last) mutex (is_end n from last) (node_at nodes from)

-- each mutex has its chain
abbrev pub AllChained : List (Option Node) → List Ends → Type 0
AllChained nodes ends = (i : ℕ) (e : Ends) → slice_get ends i ≡ Some e → is_chain nodes i e.waiting e.first e.last ≡ true

abbrev pub all_waiting : List Ends → ℕ
all_waiting ends = sum_by (λ e. e.waiting) ends

abbrev pub queues_of : List (Option Node) → List Ends → List (List (ℕ × ℕ))
queues_of nodes ends = map (λ e. chain nodes e.waiting e.first) ends

abbrev pub with_next : List (Option Node) → ℕ → ℕ → Option Node → List (Option Node)
with_next nodes last key None = nodes
with_next nodes last key (Some x) = slice_set nodes last (Some (record x { next = Some key }))

-- the node with that key comes after the last of the chain that begins so
abbrev pub appended : List (Option Node) → Option ℕ → ℕ → ℕ → List (Option Node)
appended nodes None last key = nodes
appended nodes (Some first) last key = with_next nodes last key (slice_index_or nodes last None)

abbrev pub first_key : Option ℕ → ℕ → Option ℕ
first_key None key = Some key
first_key (Some first) key = Some first

-- the queue at a place
abbrev pub queue_at : List (List (ℕ × ℕ)) → ℕ → List (ℕ × ℕ)
queue_at lists i = slice_index_or lists i []

-- one more waits last
abbrev pub with_last : List (List (ℕ × ℕ)) → ℕ → ℕ × ℕ → List (List (ℕ × ℕ))
with_last lists i by = slice_set lists i (queue_at lists i ++ by ∷ [])

abbrev pub taken_from : List (List (ℕ × ℕ)) → ℕ → List (ℕ × ℕ) → List (List (ℕ × ℕ)) × Option (ℕ × ℕ)
taken_from lists i [] = (lists, None)
taken_from lists i (first ∷ rest) = (slice_set lists i rest, Some first)

-- the first that waits waits no longer
abbrev pub first_taken : List (List (ℕ × ℕ)) → ℕ → List (List (ℕ × ℕ)) × Option (ℕ × ℕ)
first_taken lists i = taken_from lists i (queue_at lists i)
