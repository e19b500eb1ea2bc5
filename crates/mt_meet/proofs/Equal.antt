-- What the test of two bounds decides.
use Rattle.std.proofs.Common.{◌≡◌, ◌&&◌, int_eq, ap}
use Rattle.std.specs.Bool.{Decides}
use Rattle.std.proofs.lemmas.Bool.Decides.{Decides-and, Decides-int_eq, Decides-like}
use Rattle.mt_meet.specs.declared.steps.Bounds.{Bounds}

same_bounds : (a b : Bounds) → a.west ≡ b.west → a.east ≡ b.east → a.south ≡ b.south → a.north ≡ b.north → a.low ≡ b.low → a.high ≡ b.high → a ≡ b
same_bounds a b west east south north low high = λ i. record { west = west i; east = east i; south = south i; north = north i; low = low i; high = high i }

pub bounds_decides : (a b : Bounds) → Decides (int_eq a.west b.west && (int_eq a.east b.east && (int_eq a.south b.south && (int_eq a.north b.north
    && (int_eq a.low b.low && int_eq a.high b.high))))) (a ≡ b)
bounds_decides a b = Decides-like _
    (λ (west, (east, (south, (north, (low, high))))). same_bounds a b west east south north low high)
    (λ e. (
      ap (λ (s : Bounds). s.west) e,
      (
        ap (λ (s : Bounds). s.east) e,
        (ap (λ (s : Bounds). s.south) e, (ap (λ (s : Bounds). s.north) e, (ap (λ (s : Bounds). s.low) e, ap (λ (s : Bounds). s.high) e))),
      ),
    ))
    (Decides-and _ _ (Decides-int_eq a.west b.west) (Decides-and _ _ (Decides-int_eq a.east b.east) (Decides-and _ _ (Decides-int_eq a.south b.south)
    (Decides-and _ _ (Decides-int_eq a.north b.north) (Decides-and _ _ (Decides-int_eq a.low b.low) (Decides-int_eq a.high b.high))))))
