-- Why the work stops, handed on from step to step.
use Rattle.std.proofs.Common.{◌≡◌, ◌≤◌, ℕ, Bool, false, IsTrue, Result, Ok, Err, refl, sym, subst, arith}
use Rattle.std.specs.Prelude.{IfErr, IsErrAnd}
use Rattle.tree_disk.specs.cny-base.declared.fault.FlowFault.{FlowFault}
use Rattle.tree_disk.specs.cny-base.declared.fault.FlowFault.TheVariants as flow
use Rattle.tree_disk.specs.cny-base.Count.{Rose}
use Rattle.tree_disk.specs.cny-base.declared.text.TextFault.{TextFault}
use Rattle.tree_disk.specs.cny-base.declared.text.TextFault.TheVariants as fault
use Rattle.tree_disk.specs.Looks.{sees_link}
use Rattle.tree_disk.specs.Tree.{Name}
use Rattle.tree_disk.proofs.Moments.{rose_before}
use Rattle.tree_disk.specs.declared.disk.Look.{Look}
use Rattle.cny_pack.specs.Causes.{IsFirstBad, CannotEnter, KeepsCounts}
use Rattle.cny_pack.specs.Halts.{unread, IsUnread, IsHeadStop, IsHalt, Never, OnlyChanged, OnlyNoOwner, IsStopAt, IsGivingStop}
use Rattle.cny_pack.specs.Stops.{halt_of_flow}
use Rattle.cny_pack.specs.declared.head.Words.{Words}
use Rattle.cny_pack.specs.declared.stop.BadWord.{BadWord}
use Rattle.cny_pack.specs.declared.stop.Halt.{Halt}
use Rattle.cny_pack.specs.declared.stop.Halt.TheVariants as halt
use Rattle.cny_pack.specs.declared.stop.PackStop.{PackStop}
use Rattle.cny_pack.specs.declared.stop.PackStop.TheVariants as pack
use Rattle.cny_pack.specs.declared.stop.Unfit.{Unfit}
use Rattle.cny_pack.specs.declared.stop.Unfit.TheVariants as unfit

-- what a `?` hands on
pub handed : {T E : Type 0} (r : Result T E) (e : E) (P : E → Type 0) → IsErrAnd r (λ y. y ≡ e) → P e → IfErr r P
handed (Ok x) e P is holds = absurd is
handed (Err y) e P is holds = subst P (sym is) holds

-- ---- words

pub unread_is : (why : TextFault) (word : BadWord) (Why : Type 0) → (why ≡ fault.Bad → Why) → IsUnread word Why (unread why word)
unread_is fault.Bad word Why is = (refl, is refl)
unread_is fault.Memory word Why is = tt

pub unread_more : {Why Other : Type 0} (word : BadWord) (stop : PackStop) → (Why → Other) → IsUnread word Why stop → IsUnread word Other stop
unread_more word (pack.Word other) more is = (is.0, more is.1)
unread_more word pack.Memory more is = tt
unread_more word (pack.Unfit path why) more is = absurd is
unread_more word pack.NoTroves more is = absurd is
unread_more word pack.DiskFailed more is = absurd is
unread_more word pack.SinkFailed more is = absurd is

pub head_stop : {Why : Type 0} (words : Words) (word : BadWord) (stop : PackStop) → (Why → IsFirstBad words word) → IsUnread word Why stop → IsHeadStop words stop
head_stop words word (pack.Word other) first is = subst (IsFirstBad words) (sym is.0) (first is.1)
head_stop words word pack.Memory first is = tt
head_stop words word (pack.Unfit path why) first is = absurd is
head_stop words word pack.NoTroves first is = absurd is
head_stop words word pack.DiskFailed first is = absurd is
head_stop words word pack.SinkFailed first is = absurd is

-- ---- entries

pub halt_more : (h : Halt) (cannot other : Unfit → Type 0) (disk disk' sink sink' : Type 0) → ((why : Unfit) → cannot why → other why) → (disk → disk') → (sink → sink') → IsHalt cannot disk sink h → IsHalt other disk' sink' h
halt_more (halt.Unfit why) cannot other disk disk' sink sink' c d s is = c why is
halt_more halt.DiskFailed cannot other disk disk' sink sink' c d s is = d is
halt_more halt.SinkFailed cannot other disk disk' sink sink' c d s is = s is
halt_more halt.Memory cannot other disk disk' sink sink' c d s is = tt

pub stop_more : (stop : PackStop) (cannot other : Name → Unfit → Type 0) (disk disk' sink sink' : Type 0) → ((path : Name) (why : Unfit) → cannot path why → other path why) → (disk → disk') → (sink → sink')
    → IsGivingStop cannot disk sink stop → IsGivingStop other disk' sink' stop
stop_more (pack.Unfit path why) cannot other disk disk' sink sink' c d s is = c path why is
stop_more pack.DiskFailed cannot other disk disk' sink sink' c d s is = d is
stop_more pack.SinkFailed cannot other disk disk' sink sink' c d s is = s is
stop_more pack.Memory cannot other disk disk' sink sink' c d s is = tt
stop_more (pack.Word word) cannot other disk disk' sink sink' c d s is = absurd is
stop_more pack.NoTroves cannot other disk disk' sink sink' c d s is = absurd is

-- what stops an entry at a path stops the whole
pub stop_from : (cannot : Unfit → Type 0) (other : Name → Unfit → Type 0) (disk disk' sink sink' : Type 0) (path : Name) (h : Halt) (stop : PackStop) → ((at : Name) (why : Unfit) → at ≡ path → cannot why → other at why)
    → (disk → disk') → (sink → sink') → IsStopAt path h stop → IsHalt cannot disk sink h → IsGivingStop other disk' sink' stop
stop_from cannot other disk disk' sink sink' path (halt.Unfit why) (pack.Unfit at so) c d s is h = subst (other at) (sym is.1) (c at why is.0 h)
stop_from cannot other disk disk' sink sink' path (halt.Unfit why) pack.Memory c d s is h = tt
stop_from cannot other disk disk' sink sink' path (halt.Unfit why) (pack.Word word) c d s is h = absurd is
stop_from cannot other disk disk' sink sink' path (halt.Unfit why) pack.NoTroves c d s is h = absurd is
stop_from cannot other disk disk' sink sink' path (halt.Unfit why) pack.DiskFailed c d s is h = absurd is
stop_from cannot other disk disk' sink sink' path (halt.Unfit why) pack.SinkFailed c d s is h = absurd is
stop_from cannot other disk disk' sink sink' path halt.DiskFailed pack.DiskFailed c d s is h = d h
stop_from cannot other disk disk' sink sink' path halt.DiskFailed pack.Memory c d s is h = absurd is
stop_from cannot other disk disk' sink sink' path halt.DiskFailed (pack.Unfit at so) c d s is h = absurd is
stop_from cannot other disk disk' sink sink' path halt.DiskFailed (pack.Word word) c d s is h = absurd is
stop_from cannot other disk disk' sink sink' path halt.DiskFailed pack.NoTroves c d s is h = absurd is
stop_from cannot other disk disk' sink sink' path halt.DiskFailed pack.SinkFailed c d s is h = absurd is
stop_from cannot other disk disk' sink sink' path halt.SinkFailed pack.SinkFailed c d s is h = s h
stop_from cannot other disk disk' sink sink' path halt.SinkFailed pack.Memory c d s is h = absurd is
stop_from cannot other disk disk' sink sink' path halt.SinkFailed (pack.Unfit at so) c d s is h = absurd is
stop_from cannot other disk disk' sink sink' path halt.SinkFailed (pack.Word word) c d s is h = absurd is
stop_from cannot other disk disk' sink sink' path halt.SinkFailed pack.NoTroves c d s is h = absurd is
stop_from cannot other disk disk' sink sink' path halt.SinkFailed pack.DiskFailed c d s is h = absurd is
stop_from cannot other disk disk' sink sink' path halt.Memory pack.Memory c d s is h = tt
stop_from cannot other disk disk' sink sink' path halt.Memory (pack.Unfit at so) c d s is h = absurd is
stop_from cannot other disk disk' sink sink' path halt.Memory (pack.Word word) c d s is h = absurd is
stop_from cannot other disk disk' sink sink' path halt.Memory pack.NoTroves c d s is h = absurd is
stop_from cannot other disk disk' sink sink' path halt.Memory pack.DiskFailed c d s is h = absurd is
stop_from cannot other disk disk' sink sink' path halt.Memory pack.SinkFailed c d s is h = absurd is

pub changed_enters : (lacks : Name → Type 0) (tells : Bool) (path : Name) (look : Look) (why : Unfit) → OnlyChanged (IsTrue tells → ⊥) why → CannotEnter lacks tells path look why
changed_enters lacks tells path look unfit.Changed is = is
changed_enters lacks tells path look unfit.NoOwner is = absurd is
changed_enters lacks tells path look unfit.Reserved is = absurd is
changed_enters lacks tells path look (unfit.TooLarge size) is = absurd is

pub owner_enters : (lacks : Name → Type 0) (tells : Bool) (path : Name) (look : Look) (why : Unfit) → sees_link look ≡ false → OnlyNoOwner (lacks path) why → CannotEnter lacks tells path look why
owner_enters lacks tells path look unfit.NoOwner other is = (other, is)
owner_enters lacks tells path look unfit.Changed other is = absurd is
owner_enters lacks tells path look unfit.Reserved other is = absurd is
owner_enters lacks tells path look (unfit.TooLarge size) other is = absurd is

-- ---- counts of faults

pub counts_start : (d s : ℕ) → KeepsCounts d d s s
counts_start d s = record { disk_later = omega arith; sink_later = omega arith }

pub counts_on : (a b c x y z : ℕ) → KeepsCounts a b x y → KeepsCounts b c y z → KeepsCounts a c x z
counts_on a b c x y z first next = record { disk_later = omega (arith, first.disk_later, next.disk_later); sink_later = omega (arith, first.sink_later, next.sink_later) }

-- what a sink's fault makes of an entry, and of the whole
pub flow_halt : (fault : FlowFault) (before now : ℕ) → (fault ≡ flow.Failed → Rose before now) → IsHalt Never ⊥ (Rose before now) (halt_of_flow fault)
flow_halt flow.Failed before now rose = rose refl
flow_halt flow.Memory before now rose = tt

-- ---- what `?` hands on, of what was done before too

pub halt_later : {T : Type 0} (r : Result T Halt) (h : Halt) (cannot other : Unfit → Type 0) (a b c x y z : ℕ) → IsErrAnd r (λ e. e ≡ h) → a ≤ b → x ≤ y → ((why : Unfit) → cannot why → other why) → IsHalt cannot (Rose b c) (Rose y z) h
    → IfErr r (IsHalt other (Rose a c) (Rose x z))
halt_later r h cannot other a b c x y z is d s more halts =
    handed r h (IsHalt other (Rose a c) (Rose x z)) is (halt_more h cannot other (Rose b c) (Rose a c) (Rose y z) (Rose x z) more (rose_before a b c d) (rose_before x y z s) halts)

pub halt_disk : {T : Type 0} (r : Result T Halt) (h : Halt) (cannot other : Unfit → Type 0) (disk sink : Type 0) → IsErrAnd r (λ e. e ≡ h) → ((why : Unfit) → cannot why → other why) → IsHalt cannot disk ⊥ h → IfErr r (IsHalt other disk sink)
halt_disk r h cannot other disk sink is more halts = handed r h (IsHalt other disk sink) is (halt_more h cannot other disk disk ⊥ sink more (λ d. d) (λ none. absurd none) halts)

pub halt_only : {T : Type 0} (r : Result T Halt) (h : Halt) (cannot other : Unfit → Type 0) (disk sink : Type 0) → IsErrAnd r (λ e. e ≡ h) → ((why : Unfit) → cannot why → other why) → IsHalt cannot ⊥ ⊥ h → IfErr r (IsHalt other disk sink)
halt_only r h cannot other disk sink is more halts = handed r h (IsHalt other disk sink) is (halt_more h cannot other ⊥ disk ⊥ sink more (λ none. absurd none) (λ none. absurd none) halts)

pub halt_line : {T : Type 0} (r : Result T Halt) (h : Halt) (other : Unfit → Type 0) (disk : Type 0) (x y z : ℕ) → IsErrAnd r (λ e. e ≡ h) → x ≤ y → IsHalt Never ⊥ (Rose y z) h → IfErr r (IsHalt other disk (Rose x z))
halt_line r h other disk x y z is s halts =
    handed r h (IsHalt other disk (Rose x z)) is (halt_more h Never other ⊥ disk (Rose y z) (Rose x z) (λ why never. absurd never) (λ none. absurd none) (rose_before x y z s) halts)

pub halt_sink : {T : Type 0} (r : Result T Halt) (fault : FlowFault) (other : Unfit → Type 0) (disk : Type 0) (x y z : ℕ) → IsErrAnd r (λ e. e ≡ halt_of_flow fault) → x ≤ y → (fault ≡ flow.Failed → Rose y z) → IfErr r (IsHalt other disk (Rose x z))
halt_sink r fault other disk x y z is s rose = halt_line r (halt_of_flow fault) other disk x y z is s (flow_halt fault y z rose)
