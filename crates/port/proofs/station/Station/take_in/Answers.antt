-- A packet is taken.
use Rattle.std.proofs.Common.{◌<◌, sym, refl, ◌∙◌, subst}
use Rattle.std.proofs.lemmas.Option.{cond_some}
use Rattle.traffic.specs.declared.packet.Job.{Job}
use Rattle.sending.specs.Sheet.{job_of}
use Rattle.sending.specs.Calls.{welcome}
use Rattle.sending.proofs.Fitting.{read_sheets_fit}
use Rattle.sending.proofs.Source.{ours_from}
use Rattle.port.specs.Station.{state_of, sheet_of}
use Rattle.port.proofs.Sheets.{queue_low}
use Rattle.port.proofs.Intake.{welcome_ours, has_room, still_lined, takes_joined}
use Rattle.port.proofs.station.Station.take_in.Goals as goal

pub join-requires : goal.join-requires
join-requires c =
    let st = c.args.self.now in
    let s = sheet_of st in
    let p = c.args.packet in
    let told = cond_some (welcome s c.args.at st.last (state_of st) p) (job_of s p) c.in-Some.job (sym c.in-Some.ensures) in
    record {
      there = subst (λ (j : Job). j.queue < 8) told.1 (queue_low s (read_sheets_fit s st.sheet.now.kept) p (ours_from s p (welcome_ours c.args.list.now c.args.at p st told.0)));
      room = has_room c.args.list.now c.args.at p st told.0 (sym c.is_admitted.ensures ∙ c.if-is_admitted.true) c.in-Some.job (sym told.1) c.requires.room;
    }

pub invariant_of-self : goal.invariant_of-self
invariant_of-self c =
    let st = c.args.self.now in
    let s = sheet_of st in
    let p = c.args.packet in
    let told = cond_some (welcome s c.args.at st.last (state_of st) p) (job_of s p) c.in-Some.job (sym c.in-Some.ensures) in
    record { lined = still_lined c.args.list.now c.args.at p st told.0 c.in-Some.job (sym told.1) c.join.new.self c.join.ensures }

pub returns-in-Some : goal.returns-in-Some
returns-in-Some c =
    let st = c.args.self.now in
    let s = sheet_of st in
    let p = c.args.packet in
    let told = cond_some (welcome s c.args.at st.last (state_of st) p) (job_of s p) c.in-Some.job (sym c.in-Some.ensures) in
    takes_joined c.args.list.now c.args.at p st told.0 (sym c.is_admitted.ensures ∙ c.if-is_admitted.true) c.in-Some.job (sym told.1) _ refl c.join.ensures refl refl refl
