-- The fixed directories of the root, and tests one after the other.
use Rattle.std.specs.Prelude.{Result, Ok, Err, if◌then◌else◌, codes}
use Rattle.rollback_stack.specs.cny-base.declared.refusal.Refusal.{Refusal}
use Rattle.rollback_stack.specs.cny-base.declared.refusal.Refusal.TheVariants as refusal
use Rattle.rollback_stack.specs.cny-base.declared.stop.Stop.{Stop}
use Rattle.rollback_stack.specs.cny-base.declared.stop.Stop.TheVariants as stop
use Rattle.rollback_stack.specs.tree-disk.Rows.{is_dir_at}
use Rattle.rollback_stack.specs.tree-disk.Tree.{Name, Tree}
use Rattle.tree_journal.specs.Recovered.{IsPathRefusal}

-- where these tests are refused, it is for a path
abbrev pub RefusesPath : Stop → Type 0
RefusesPath (stop.Refused r) = IsPathRefusal r
RefusesPath _ = Unit {0}

infixl 10 ◌>>=◌
abbrev pub ◌>>=◌ : {A B : Type 0} → Result A Refusal → (A → Result B Refusal) → Result B Refusal
(Ok x) >>= f = f x
(Err e) >>= f = Err e

abbrev pub test_dir : Tree → Name → Result (Unit {0}) Refusal
test_dir tree path = if is_dir_at tree path then Ok tt else Err (refusal.Parent path)

-- `/`, `/var` and `/var/lib` are directories; the first that isn't is the refusal
abbrev pub fixed_dirs : Tree → Result (Unit {0}) Refusal
fixed_dirs tree = test_dir tree (codes "/") >>= λ _. test_dir tree (codes "/var") >>= λ _. test_dir tree (codes "/var/lib")
