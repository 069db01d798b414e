use Rattle.std.proofs.Common.{◌≡◌, ℕ, ◌-◌, ◌≤◌, ◌<◌, List, Option, None, Ok, Err, length, drop, refl, sym, subst, arith, length-drop}
use Rattle.std.specs.Prelude.{IfSome}
use Rattle.repo_load.specs.cny-base.declared.refusal.Refusal.{Refusal}
use Rattle.repo_load.specs.tree-disk.Tree.{Name, Tree}
use Rattle.repo_mirror.proofs.Lengthening.{take_whole}
use Rattle.repo_serve.specs.Answers.{Answers}
use Rattle.repo_serve.specs.Steps.{AnswersAll, AnswersOne, Decides, HasAnswered, IsDamagedNext}
use Rattle.repo_serve.proofs.Advancing.{damaged, decided}
use Rattle.repo_serve.proofs.AnswersLaws.{answers_is, answers_stop, answers_then, answers_value}
use Rattle.repo_serve.proofs.Progress.{done, goes_on}
use Rattle.repo_serve.proofs.answering.answer_all.Goals as goal

pub returns-in_err-to-clause-answers : goal.returns-in_err-to-clause-answers
returns-in_err-to-clause-answers g c =
    let tree = g.D.TreeDisk.disk.reads c.args.disk.now in
    let from = c.args.answered.now in
    let mid = c.requests.answered in
    let bytes = c.args.bytes.now in
    let used = c.requests.used in
    let new = c.answer_one.new.answered in
    let rest = drop used bytes in
    let troves = c.args.catalogue.now.troves in
    let same = take_whole (drop used bytes) (length bytes - used) (omega (arith, length-drop used bytes)) in
    let run = subst (λ (l : List ℕ). Answers g.D.TreeDisk.disk (λ (x : Tree) (next : Option ℕ). AnswersOne x mid new l c.requests.out c.answer_one.new.out next) (λ (x : Tree) (refusal : Refusal). Decides x mid l refusal)
    (IsDamagedNext troves mid.number l) c.requests.disk c.answer_one.new.disk (Err c.in_err-to.field-0.0)) same c.in_err-to.ensures.answers in
    answers_then g.met.D.TreeDisk.laws c.requests.invariant.run
    (answers_stop {T = λ (x : Tree) (n : ℕ). ⊥} {U = λ (x : Tree) (refusal : Refusal). Decides x mid rest refusal} {V = IsDamagedNext troves mid.number rest}
    run c.from_residual.ensures.1 (λ told refusal d. d) (λ told path bad. bad))
    (λ told p z no. absurd no)
    (λ told p refusal d. decided tree from bytes mid rest p.replies p.advances c.requests.invariant.within refusal d)
    (λ told p path bad. damaged tree from bytes mid rest p.replies p.advances c.requests.invariant.within troves path bad)

pub requests-preserved : goal.requests-preserved
requests-preserved g c =
    let tree = g.D.TreeDisk.disk.reads c.args.disk.now in
    let from = c.args.answered.now in
    let mid = c.requests.answered in
    let new = c.answer_one.new.answered in
    let bytes = c.args.bytes.now in
    let used = c.requests.used in
    let to = c.in-Some.to in
    let troves = c.args.catalogue.now.troves in
    let same = take_whole (drop used bytes) (length bytes - used) (omega (arith, length-drop used bytes)) in
    let run = subst (λ (l : List ℕ). Answers g.D.TreeDisk.disk (λ (x : Tree) (next : Option ℕ). AnswersOne x mid new l c.requests.out c.answer_one.new.out next) (λ (x : Tree) (refusal : Refusal). Decides x mid l refusal)
    (IsDamagedNext troves mid.number l) c.requests.disk c.answer_one.new.disk (Ok c.in_ok-to.field-0)) same c.in_ok-to.ensures.answers in
    let end = subst (λ (o : Option ℕ). IfSome o (λ (n : ℕ). (0 < n) × (n ≤ length (drop used bytes)))) c.in-Some.is
    (subst (λ (l : List ℕ). IfSome c.in_ok-to.field-0 (λ (n : ℕ). (0 < n) × (n ≤ length l))) same c.in_ok-to.ensures.end) in
    let left = length-drop used bytes in
    let most = c.requests.invariant.most in
    record {
      most = omega (arith, end.1, left, most);
      within = c.in_ok-to.ensures.within;
      run = answers_then g.met.D.TreeDisk.laws c.requests.invariant.run
          (answers_value {T = λ (x : Tree) (u : Unit {0}). HasAnswered x mid new (drop used bytes) c.requests.out c.answer_one.new.out to} {U = λ (x : Tree) (refusal : Refusal). ⊥} {V = λ (x : Tree) (path : Name). ⊥} {z = tt}
          (answers_is c.in-Some.is run) (λ told it. it))
          (λ told p z it. goes_on tree from bytes c.args.out.now mid used c.requests.out p new c.answer_one.new.out to it)
          (λ told p refusal no. absurd no) (λ told p path no. absurd no);
    }

pub returns-clause-answers : goal.returns-clause-answers
returns-clause-answers g c =
    let tree = g.D.TreeDisk.disk.reads c.args.disk.now in
    let from = c.args.answered.now in
    let mid = c.requests.answered in
    let new = c.answer_one.new.answered in
    let bytes = c.args.bytes.now in
    let used = c.requests.used in
    let troves = c.args.catalogue.now.troves in
    let same = take_whole (drop used bytes) (length bytes - used) (omega (arith, length-drop used bytes)) in
    let run = subst (λ (l : List ℕ). Answers g.D.TreeDisk.disk (λ (x : Tree) (next : Option ℕ). AnswersOne x mid new l c.requests.out c.answer_one.new.out next) (λ (x : Tree) (refusal : Refusal). Decides x mid l refusal)
    (IsDamagedNext troves mid.number l) c.requests.disk c.answer_one.new.disk (Ok c.in_ok-to.field-0)) same c.in_ok-to.ensures.answers in
    answers_then g.met.D.TreeDisk.laws c.requests.invariant.run
    (answers_value {T = λ (x : Tree) (n : ℕ). (n ≡ used) × AnswersOne x mid new (drop used bytes) c.requests.out c.answer_one.new.out None} {U = λ (x : Tree) (refusal : Refusal). ⊥} {V = λ (x : Tree) (path : Name). ⊥} {z = used}
    (answers_is c.in_default.is run) (λ told it. (refl, it)))
    (λ told p z it.
    subst (AnswersAll tree from new bytes c.args.out.now c.answer_one.new.out) (sym it.0) (done tree from bytes c.args.out.now mid used c.requests.out p new c.answer_one.new.out it.1.0 it.1.1 it.1.2))
    (λ told p refusal no. absurd no) (λ told p path no. absurd no)
