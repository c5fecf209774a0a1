pub mod Commands
pub mod Origins
pub use Rattle.command_desk.specs.Answers
pub use Rattle.command_desk.specs.Desks
pub use Rattle.command_desk.specs.Effects
pub use Rattle.show_commands.specs.Paging
