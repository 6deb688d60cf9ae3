use Rattle.std.proofs.Common.{◌≡◌, sym, inr, true, take, arith, rules}
use Rattle.std.proofs.lemmas.List.{take_all, length-drop, take_rest}
use Rattle.file_text.specs.Node.{tree_of}
use Rattle.file_text.specs.inside.Seen.{state_of}
use Rattle.file_text.proofs.MachineReadsExactly.{tidy_at}
use Rattle.file_text.proofs.RecognisedFaults.{no_fault}
use Rattle.file_text.proofs.LoopOutcomes.{goes_on, read_text, read_only, early_fault}
use Rattle.file_text.proofs.ValueTexts.{text-characters}
use Rattle.file_text.proofs.PassedRuns.{passed-on, passed-none}
use Rattle.file_text.proofs.read.read_tree.Goals as goal

pub take-requires : goal.take-requires
take-requires c =
    tidy_at true (take c.loop-i.i c.args.bytes.now) (state_of c.pass.new.self)
    (passed-none c.args.bytes.now c.loop-i.i c.in_ok-passed.passed (state_of c.loop-i.scanner) (state_of c.pass.new.self) (omega (arith, c.if-passed-gt0.false)) c.loop-i.invariant.same (rw (take_rest c.args.bytes.now c.loop-i.i) at c.in_ok-passed.ensures.same))

pub returns-in_default : goal.returns-in_default
returns-in_default c = record {
  spelled = tt;
  only = λ e is. absurd (no_fault c.args.bytes.now e c.fault_of.result is c.fault_of.ensures);
  fault = inr c.fault_of.ensures;
  characters = tt;
}

pub loop-i-preserved-then-passed-gt0 : goal.loop-i-preserved-then-passed-gt0
loop-i-preserved-then-passed-gt0 c = record {
  within = omega (arith, rw (take_rest c.args.bytes.now c.loop-i.i) at c.in_ok-passed.ensures.within, length-drop c.loop-i.i c.args.bytes.now);
  same = passed-on c.args.bytes.now c.loop-i.i c.in_ok-passed.passed (state_of c.loop-i.scanner) (state_of c.pass.new.self) c.loop-i.invariant.same (rw (take_rest c.args.bytes.now c.loop-i.i) at c.in_ok-passed.ensures.same);
}

pub loop-i-preserved : goal.loop-i-preserved
loop-i-preserved c =
    let here = (passed-none c.args.bytes.now c.loop-i.i c.in_ok-passed.passed (state_of c.loop-i.scanner) (state_of c.pass.new.self) (omega (arith, c.if-passed-gt0.false)) c.loop-i.invariant.same (rw (take_rest c.args.bytes.now c.loop-i.i) at c.in_ok-passed.ensures.same)) in
    record {
      within = omega (arith, c.loop-i-test.true);
      same = goes_on c.args.bytes.now c.loop-i.i (state_of c.pass.new.self) (state_of c.take.new.self) c.loop-i-test.true here (rw c.in-Goes.is at c.in_ok-stop.ensures);
    }

pub fault_of-requires : goal.fault_of-requires
fault_of-requires c =
    let here = (passed-none c.args.bytes.now c.loop-i.i c.in_ok-passed.passed (state_of c.loop-i.scanner) (state_of c.pass.new.self) (omega (arith, c.if-passed-gt0.false)) c.loop-i.invariant.same (rw (take_rest c.args.bytes.now c.loop-i.i) at c.in_ok-passed.ensures.same)) in
    record {
      state = state_of c.pass.new.self;
      after = state_of c.take.new.self;
      within_bytes = c.loop-i-test.true;
      here = here;
      takes = search rules;
      stops = search rules;
    }

pub returns-in-Some-clause-spelled : goal.returns-in-Some-clause-spelled
returns-in-Some-clause-spelled c =
    let all : take c.loop-i.i c.args.bytes.now ≡ c.args.bytes.now = take_all c.loop-i.i c.args.bytes.now c.loop-i-test.false in
    read_text c.args.bytes.now (state_of c.loop-i.scanner) (tree_of c.in-Some.root) (rw all at c.loop-i.invariant.same) (sym c.in-Some.ensures)

pub returns-in-Some-clause-characters : goal.returns-in-Some-clause-characters
returns-in-Some-clause-characters c =
    let all : take c.loop-i.i c.args.bytes.now ≡ c.args.bytes.now = take_all c.loop-i.i c.args.bytes.now c.loop-i-test.false in
    text-characters (tree_of c.in-Some.root) c.args.bytes.now (read_text c.args.bytes.now (state_of c.loop-i.scanner) (tree_of c.in-Some.root) (rw all at c.loop-i.invariant.same) (sym c.in-Some.ensures))

pub returns-in-Some-clause-only : goal.returns-in-Some-clause-only
returns-in-Some-clause-only c = λ e is.
    let all : take c.loop-i.i c.args.bytes.now ≡ c.args.bytes.now = take_all c.loop-i.i c.args.bytes.now c.loop-i-test.false in
    read_only c.args.bytes.now (state_of c.loop-i.scanner) (tree_of c.in-Some.root) e (rw all at c.loop-i.invariant.same) (sym c.in-Some.ensures) is

pub returns-in-None-clause-only : goal.returns-in-None-clause-only
returns-in-None-clause-only c = λ e is.
    let all : take c.loop-i.i c.args.bytes.now ≡ c.args.bytes.now = take_all c.loop-i.i c.args.bytes.now c.loop-i-test.false in
    absurd (no_fault c.args.bytes.now e c.fault_at.result is
    (early_fault c.args.bytes.now (state_of c.loop-i.scanner) c.fault_at.result (rw all at c.loop-i.invariant.same) (sym c.in-None.ensures) c.fault_at.ensures))

pub returns-in-None-clause-fault : goal.returns-in-None-clause-fault
returns-in-None-clause-fault c =
    let all : take c.loop-i.i c.args.bytes.now ≡ c.args.bytes.now = take_all c.loop-i.i c.args.bytes.now c.loop-i-test.false in
    inr (early_fault c.args.bytes.now (state_of c.loop-i.scanner) c.fault_at.result (rw all at c.loop-i.invariant.same) (sym c.in-None.ensures) c.fault_at.ensures)
