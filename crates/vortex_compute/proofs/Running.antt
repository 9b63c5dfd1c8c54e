-- For callers of the in-place kernels: that a closure may run on all lanes.
use Rattle.std.proofs.Common.{List, [], ◌∷◌}
use Rattle.std.specs.Prelude.{All}
use Rattle.std.proofs.lemmas.List.Elements.{All-head, All-tail}
use Rattle.vortex_compute.specs.InOrder.{MayRun}

-- where a fact of the state and of the lanes that are left lets the closure be called on the next of them, and each call keeps that fact
pub may_run_while : {F X R : Type 0} (pre : F → X → Type 0) (step : F → X → R → F → Type 0) (Holds : F → List X → Type 0) → ((f : F) (x : X) (xs : List X) → Holds f (x ∷ xs) → pre f x) → ((f g : F) (x : X) (xs : List X) (r : R) → Holds f (x ∷ xs) → step f x r g → Holds g xs) → (f : F) (xs : List X) → Holds f xs → MayRun pre step f xs
may_run_while pre step Holds may keeps f [] h = tt
may_run_while pre step Holds may keeps f (x ∷ xs) h = (may f x xs h, λ r g called. may_run_while pre step Holds may keeps g xs (keeps f g x xs r h called))

-- where it may be called on each lane in every state
pub may_run_ever : {F X R : Type 0} (pre : F → X → Type 0) (step : F → X → R → F → Type 0) (f : F) (xs : List X) → ((g : F) → All (pre g) xs) → MayRun pre step f xs
may_run_ever pre step f xs all =
    may_run_while pre step (λ g ys. (h : _) → All (pre h) ys) (λ g y ys ever. All-head (pre g) y ys (ever g)) (λ g g' y ys r ever called h. All-tail (pre h) y ys (ever h)) f xs all
