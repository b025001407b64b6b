use Rattle.std.proofs.Common.{◌≡◌, [], drop, map, take}
use Rattle.tap_base.specs.ListWords.{behind}
use Rattle.tap_settings.specs.Offences.{setting_offences}
use Rattle.tap_settings.specs.SettingText.{assignment_of}
use Rattle.tap_settings.specs.inner.Table.{HasPlaces, Holds}
use Rattle.tap_settings.proofs.giving.give_all.Given as goal

-- the settings so far have no offence, and the table holds them
abbrev pub invariant-settings : goal.invariant-settings
invariant-settings l = record {
  places : HasPlaces l.processes l.rows;
  holds : Holds l.processes (map assignment_of (take l.at l.settings)) l.rows;
  clear : behind (setting_offences l.processes) (map assignment_of (take l.at l.settings)) (map assignment_of (drop l.at l.settings)) ≡ behind (setting_offences l.processes) [] (map assignment_of l.settings);
}
