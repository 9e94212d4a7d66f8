-- How `Chains` lays out its lists. No public clause cites this module.
use Rattle.std.specs.Prelude.{◌≡◌, ℕ, ◌<◌, ◌^◌, zero, suc, List, [], ◌∷◌, map, length, Option, Some, None}
use Rattle.std.specs.Prelude.{slice_index_or, slice_set}
use Rattle.plir_store.specs.Members.{Has, Distinct}
use Rattle.plir_store.specs.Lists.{Lists}
use Rattle.plir_store.specs.declared.chains.Link.{Link}
use Rattle.plir_store.specs.declared.chains.Ends.{Ends}

-- what is read past the end
abbrev pub no_link : Link
no_link = record { prev = None; next = None; parent = None }

abbrev pub no_ends : Ends
no_ends = record { first = None; last = None }

abbrev pub link_at : List Link → ℕ → Link
link_at ls x = slice_index_or ls x no_link

abbrev pub ends_at : List Ends → ℕ → Ends
ends_at es p = slice_index_or es p no_ends

-- A place in the list of p is a child, or `None`, which stands both before the first and after the last.
abbrev pub after : List Ends → List Link → ℕ → Option ℕ → Option ℕ
after es ls p None = (ends_at es p).first
after es ls p (Some x) = (link_at ls x).next

abbrev pub before : List Ends → List Link → ℕ → Option ℕ → Option ℕ
before es ls p None = (ends_at es p).last
before es ls p (Some x) = (link_at ls x).prev

-- what `put_after` and `put_before` write
abbrev pub put_first : List Ends → ℕ → Option ℕ → Option ℕ → List Ends
put_first es p None v = slice_set es p (record (ends_at es p) { first = v })
put_first es p (Some x) v = es

abbrev pub put_last : List Ends → ℕ → Option ℕ → Option ℕ → List Ends
put_last es p None v = slice_set es p (record (ends_at es p) { last = v })
put_last es p (Some x) v = es

abbrev pub put_next : List Link → Option ℕ → Option ℕ → List Link
put_next ls None v = ls
put_next ls (Some x) v = slice_set ls x (record (link_at ls x) { next = v })

abbrev pub put_prev : List Link → Option ℕ → Option ℕ → List Link
put_prev ls None v = ls
put_prev ls (Some x) v = slice_set ls x (record (link_at ls x) { prev = v })

-- the ends and the links once c is put between l and r in the list of p
abbrev pub ends_in : List Ends → ℕ → ℕ → Option ℕ → Option ℕ → List Ends
ends_in es p c l r = put_last (put_first es p l (Some c)) p r (Some c)

abbrev pub links_in : List Link → ℕ → ℕ → Option ℕ → Option ℕ → List Link
links_in ls p c l r = put_prev (put_next (slice_set ls c (record { prev = l; next = r; parent = Some p })) l (Some c)) r
    (Some c)

-- the ends and the links once c is taken out from between l and r in the list of p
abbrev pub ends_out : List Ends → ℕ → Option ℕ → Option ℕ → List Ends
ends_out es p l r = put_last (put_first es p l r) p r l

abbrev pub links_out : List Link → ℕ → Option ℕ → Option ℕ → List Link
links_out ls c l r = slice_set (put_prev (put_next ls l r) r l) c no_link

-- from the place a by way of xs to the place b, N leading on and P leading back
abbrev pub Joined : (Option ℕ → Option ℕ) → (Option ℕ → Option ℕ) → Option ℕ → List ℕ → Option ℕ → Type 0
Joined N P a [] b = (N a ≡ b) × (P b ≡ a)
Joined N P a (x ∷ xs) b = (N a ≡ Some x) × (P (Some x) ≡ a) × Joined N P (Some x) xs b

-- at most n steps along `next`
abbrev pub walk : ℕ → (ℕ → Option ℕ) → Option ℕ → List ℕ
walk zero next a = []
walk (suc n) next None = []
walk (suc n) next (Some x) = x ∷ walk n next (next x)

abbrev pub children_from : List Link → Ends → List ℕ
children_from ls e = walk (length ls) (λ x. (link_at ls x).next) e.first

abbrev pub children_of : List Ends → List Link → List (List ℕ)
children_of es ls = map (children_from ls) es

abbrev pub parents_of : List Link → List (Option ℕ)
parents_of ls = map (λ l. l.parent) ls

abbrev pub lists_of : List Ends → List Link → Lists
lists_of es ls = record { children = children_of es ls; parents = parents_of ls }

-- the links hold the lists ks
pub record IsLinked (es : List Ends) (ls : List Link) (ks : List (List ℕ)) : Type 0 where
  pub as_many : length ks ≡ length es
  pub joined : (p : ℕ) → Joined (after es ls p) (before es ls p) None (slice_index_or ks p []) None
  pub apart : (p : ℕ) → Distinct (slice_index_or ks p [])
  pub owned : (p c : ℕ) → Has (slice_index_or ks p []) c → (link_at ls c).parent ≡ Some p
  pub held : (p c : ℕ) → (link_at ls c).parent ≡ Some p → Has (slice_index_or ks p []) c
  pub loose_next : (c : ℕ) → (link_at ls c).parent ≡ None → (link_at ls c).next ≡ None
  pub loose_prev : (c : ℕ) → (link_at ls c).parent ≡ None → (link_at ls c).prev ≡ None
  pub num_lists : length es < 2 ^ 32
  pub num_children : length ls < 2 ^ 32
