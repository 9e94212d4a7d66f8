-- What is left where a tree has been copied, and where that was refused.
use Rattle.std.proofs.Common.{◌≡◌, List, [], ◌∷◌, refl, sym, ap, subst, inl, inr}
use Rattle.std.proofs.lemmas.Option.{none-some}
use Rattle.plir_store.specs.Members.{Has, Distinct}
use Rattle.plir_store.specs.MemberLaws.{Distinct-one}
use Rattle.plir_core.specs.declared.ptr.IRNode.{IRNode}
use Rattle.plir_core.specs.declared.ptr.IRNode.TheVariants.{Operation, Region, BasicBlock}
use Rattle.plir_core.specs.ContextView.{ContextView, IsLive, IsAncestor, children}
use Rattle.plir_core.specs.Forest.{look, IsForest}
use Rattle.plir_core.specs.Grown.{Growth}
use Rattle.plir_core.specs.Made.{IsMade}
use Rattle.plir_core.specs.Measures.{IsMeasured}
use Rattle.plir_core.specs.Room.{IsFullFor, HaveCome}
use Rattle.plir_core.specs.RoomLaws.{come_still, full_more}
use Rattle.plir_copies.specs.declared.trees.Twin.{Twin}
use Rattle.plir_copies.specs.Images.{Images, AreImagesLive, no_images, over}
use Rattle.plir_copies.specs.Room.{one_like, count_of, tree_count}
use Rattle.plir_copies.specs.Trees.{IsCopyOfTree}
use Rattle.plir_copies.specs.Twins.{AreOfOneKind, CanStandAlone, HoldsAs, IsTwin, IsCopying, AreChanged, copies_of}
use Rattle.plir_copies.specs.Twins.{with_twins}
use Rattle.plir_copies.proofs.Become.{holds-copies}
use Rattle.plir_copies.proofs.Below.{holds-now}
use Rattle.plir_copies.proofs.Keeping.{images-keep}
use Rattle.plir_copies.proofs.Mapped.{live-all, live-over}
use Rattle.plir_copies.proofs.RoomLaws.{come_one, count_one}
use Rattle.plir_copies.proofs.TreeNodes.{tree-most}
use Rattle.plir_copies.proofs.Whole.{IsWholeCopy, has-become, made-changed, tree-come, tree-copied, whole-copy}
use Rattle.plir_copies.proofs.Whole.{copies_in}

-- a copy of what can stand alone can stand alone
pub stands-alone : (n c : IRNode) → AreOfOneKind n c → CanStandAlone n → CanStandAlone c
stands-alone (Operation p) (Operation q) k a = tt
stands-alone (BasicBlock p) (BasicBlock q) k a = tt
stands-alone (Operation p) (Region q) k a = k
stands-alone (Operation p) (BasicBlock q) k a = tt
stands-alone (BasicBlock p) (Operation q) k a = tt
stands-alone (BasicBlock p) (Region q) k a = k
stands-alone (Region p) c k a = absurd a

module _ {K A T : Type 0} (s : ContextView K A T) (root : IRNode) where
  -- where the root has no room, the tree has none
  pub full-root : IsForest (look s) → IsMeasured s → IsFullFor s.nodes (one_like root)
      → IsFullFor s.nodes (tree_count s.nodes root)
  full-root forest measured full =
      full_more s.nodes (count_of (root ∷ [])) (tree_count s.nodes root) (tree-most s forest measured root (root ∷ [])
      (Distinct-one root) (λ n h. elim h [ inl e ↦ subst (IsAncestor s root) e (0, refl) | inr z ↦ absurd z ]))
      (subst (IsFullFor s.nodes) (sym (count_one root)) full)

-- The tree under a root has been copied, and a map has become n that was m.
pub record IsCloned {K A T : Type 0} (s u : ContextView K A T) (root copy : IRNode) (m n : Images) : Type 0 where
  pub made : IsMade s.nodes u.nodes copy
  pub come : HaveCome s.nodes u.nodes (tree_count s.nodes root)
  pub copied : IsCopyOfTree s u root copy m n

module _ {K A T : Type 0} (s t : ContextView K A T) (root copy : IRNode) where
  -- the root alone has been copied
  pub begun : Growth s.nodes → IsForest (look s) → IsMeasured s → IsMade s.nodes t.nodes copy → t.types ≡ s.types
      → IsLive s root → HoldsAs s t root copy → children t copy ≡ [] → HaveCome s.nodes t.nodes (one_like root)
      → IsCopying s t root copy [] (record { node = root; copy = copy } ∷ [])
  begun growth forest measured made types live holds leaf come = record {
    growth = growth;
    forest = forest;
    measured = measured;
    made = made;
    types = types;
    first = inl refl;
    nodes = (λ h. h, tt);
    copies = (λ h. h, tt);
    each = λ w h. elim h [
      | inl e ↦ subst (IsTwin s t) e (record { live = live; copy_live = made.root; new = made.new; holds = holds })
      | inr z ↦ absurd z
    ];
    below = λ w h. elim h [
      | inl e ↦ subst (λ z. IsAncestor s root z.node) e (0, refl)
      | inr z ↦ absurd z
    ];
    whole = λ w h. absurd h;
    bare = λ w h. elim h [ inl e ↦ subst (λ z. children t z.copy ≡ []) e leaf | inr z ↦ absurd z ];
    over = λ w h. elim h [ inl e ↦ inl (ap (λ z. z.node) (sym e)) | inr z ↦ absurd z ];
    come = come_one s.nodes t.nodes root come;
  }

  module _ (ws : List Twin) (h : IsCopying s t root copy ws []) where
    w : IsWholeCopy s t root copy ws
    w = whole-copy s t root copy ws h

    pub node-live : (x : Twin) → Has ws x → IsLive t x.node
    node-live x m = h.made.keeps.live x.node (w.each x m).live

    pub copy-live : (x : Twin) → Has ws x → IsLive t x.copy
    copy-live x m = (w.each x m).copy_live

    pub holds-same : (x : Twin) → Has ws x → HoldsAs t t x.node x.copy
    holds-same x m = holds-now s t h.made.keeps x.node x.copy (w.each x m).live (w.each x m).holds

    pub copies-once : Distinct (copies_of ws)
    copies-once = w.copies

    -- what is put in place is live
    pub all-live : (m n : Images) → n ≡ over (with_twins t no_images ws) m → AreImagesLive s m → AreImagesLive t n
    all-live m n e l =
        subst (AreImagesLive t) (sym e) (live-over t (with_twins t no_images ws) m
        (live-all t ws no_images (record { values = λ v x i. absurd (none-some x i); blocks = λ b x i. absurd (none-some x i) })
        copy-live holds-same) (images-keep s t m h.made.keeps l))

    -- what is left once the operations of the copy are changed
    pub cloned : (u : ContextView K A T) (m n : Images) → n ≡ over (with_twins t no_images ws) m
        → AreChanged t u n (copies_of ws) → IsCloned s u root copy m n
    cloned u m n e changed = record {
      made = made-changed s t root copy ws w u n changed;
      come = come_still s.nodes t.nodes u.nodes (tree_count s.nodes root) (tree-come s t root copy ws w) changed.none_come;
      copied = record {
        copies = copies_in ws;
        top = has-become s t root copy ws w (record { node = root; copy = copy }) w.first;
        tree = tree-copied s t root copy ws w u n changed;
        mapped = holds-copies s t root copy ws w m n e;
      };
    }
