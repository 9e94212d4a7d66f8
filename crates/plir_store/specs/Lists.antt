-- What a contract sees of `Chains`: the children of each parent in order, and the parent of each child.
use Rattle.std.specs.Prelude.{◌≡◌, ℕ, ◌-◌, ◌<◌, ◌^◌, take, cond, ◌==◌, List, [], ◌∷◌, ◌++◌, length, Option, Some, None}
use Rattle.std.specs.Prelude.{slice_index_or, slice_set}
use Rattle.plir_store.specs.Members.{Has, Distinct, head}

-- The list of each parent, and the parent of each child, if it has one.
pub record Lists : Type 0 where
  pub children : List (List ℕ)
  pub parents : List (Option ℕ)

-- the children of a parent
abbrev pub children_at : Lists → ℕ → List ℕ
children_at s p = slice_index_or s.children p []

-- the parent of a child
abbrev pub parent_at : Lists → ℕ → Option ℕ
parent_at s c = slice_index_or s.parents c None

-- the last element of a list, whose first element has `a` before it
abbrev pub last_from : Option ℕ → List ℕ → Option ℕ
last_from a [] = a
last_from a (x ∷ xs) = last_from (Some x) xs

-- the last element of a list
abbrev pub last_of : List ℕ → Option ℕ
last_of xs = last_from None xs

-- what follows c in a list
abbrev pub next_in : List ℕ → ℕ → Option ℕ
next_in [] c = None
next_in (x ∷ xs) c = cond (x == c) (head xs) (next_in xs c)

-- what stands before c in a list, whose first element has `a` before it
abbrev pub prev_in : Option ℕ → List ℕ → ℕ → Option ℕ
prev_in a [] c = None
prev_in a (x ∷ xs) c = cond (x == c) a (prev_in (Some x) xs c)

-- the list with c before m
abbrev pub put_in : ℕ → ℕ → List ℕ → List ℕ
put_in c m [] = []
put_in c m (x ∷ xs) = cond (x == m) (c ∷ x ∷ xs) (x ∷ put_in c m xs)

-- the list with c after m
abbrev pub put_in_after : ℕ → ℕ → List ℕ → List ℕ
put_in_after c m [] = []
put_in_after c m (x ∷ xs) = cond (x == m) (x ∷ c ∷ xs) (x ∷ put_in_after c m xs)

-- the list without c
abbrev pub without : ℕ → List ℕ → List ℕ
without c [] = []
without c (x ∷ xs) = cond (x == c) xs (x ∷ without c xs)

abbrev pub next_under : Lists → ℕ → Option ℕ → Option ℕ
next_under s c None = None
next_under s c (Some p) = next_in (children_at s p) c

-- what follows c in the list that it is in
abbrev pub next_of : Lists → ℕ → Option ℕ
next_of s c = next_under s c (parent_at s c)

abbrev pub prev_under : Lists → ℕ → Option ℕ → Option ℕ
prev_under s c None = None
prev_under s c (Some p) = prev_in None (children_at s p) c

-- what stands before c in the list that it is in
abbrev pub prev_of : Lists → ℕ → Option ℕ
prev_of s c = prev_under s c (parent_at s c)

-- one more parent, with no child
abbrev pub with_list : Lists → Lists
with_list s = record s { children = s.children ++ [] ∷ [] }

-- one more child, with no parent
abbrev pub with_child : Lists → Lists
with_child s = record s { parents = s.parents ++ None ∷ [] }

-- without the last parent
abbrev pub without_last_list : Lists → Lists
without_last_list s = record s { children = take (length s.children - 1) s.children }

-- without the last child
abbrev pub without_last_child : Lists → Lists
without_last_child s = record s { parents = take (length s.parents - 1) s.parents }

-- c under p at the start
abbrev pub with_first : Lists → ℕ → ℕ → Lists
with_first s p c = record {
  children = slice_set s.children p (c ∷ children_at s p);
  parents = slice_set s.parents c (Some p);
}

-- c under p at the end
abbrev pub with_last : Lists → ℕ → ℕ → Lists
with_last s p c = record {
  children = slice_set s.children p (children_at s p ++ c ∷ []);
  parents = slice_set s.parents c (Some p);
}

abbrev pub with_before_under : Lists → ℕ → ℕ → Option ℕ → Lists
with_before_under s c m None = s
with_before_under s c m (Some p) = record {
  children = slice_set s.children p (put_in c m (children_at s p));
  parents = slice_set s.parents c (Some p);
}

-- c before m, under the parent of m
abbrev pub with_before : Lists → ℕ → ℕ → Lists
with_before s c m = with_before_under s c m (parent_at s m)

abbrev pub with_after_under : Lists → ℕ → ℕ → Option ℕ → Lists
with_after_under s c m None = s
with_after_under s c m (Some p) = record {
  children = slice_set s.children p (put_in_after c m (children_at s p));
  parents = slice_set s.parents c (Some p);
}

-- c after m, under the parent of m
abbrev pub with_after : Lists → ℕ → ℕ → Lists
with_after s c m = with_after_under s c m (parent_at s m)

abbrev pub without_under : Lists → ℕ → Option ℕ → Lists
without_under s c None = s
without_under s c (Some p) = record {
  children = slice_set s.children p (without c (children_at s p));
  parents = slice_set s.parents c None;
}

-- c in no list
abbrev pub without_child : Lists → ℕ → Lists
without_child s c = without_under s c (parent_at s c)

-- What holds of all lists that `Chains` keeps: a child stands in the list of p exactly where p is its
-- parent, none stands there twice, and the numbers of parents and of children fit 32 bits.
pub record IsAgreed (s : Lists) : Type 0 where
  pub apart : (p : ℕ) → Distinct (children_at s p)
  pub owned : (p c : ℕ) → Has (children_at s p) c → parent_at s c ≡ Some p
  pub held : (p c : ℕ) → parent_at s c ≡ Some p → Has (children_at s p) c
  pub within : (p c : ℕ) → Has (children_at s p) c → c < length s.parents
  pub num_lists : length s.children < 2 ^ 32
  pub num_children : length s.parents < 2 ^ 32
